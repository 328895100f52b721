-- The fields of a change are read back.
use Rattle.std.proofs.Common.{◌≡◌, ℕ, ◌≤◌, ◌<◌, ◌^◌, List, length, Ok, refl, arith, length-append, lit≤}
use Rattle.std.specs.Prelude.{IsTrue, ◌++◌}
use Rattle.std.specs.Int.{w64, to_be_bytes}
use Rattle.hex.specs.Hex.{encode_lower, lower_digits}
use Rattle.hex.proofs.HexLemmas.{length-encode_with}
use Rattle.upload_names.specs.declared.digest.Algorithm.{Algorithm}
use Rattle.upload_names.specs.declared.digest.Algorithm.TheVariants.{Sha256, Sha512}
use Rattle.upload_names.specs.NamePass.{is_name}
use Rattle.upload_names.specs.Digest.{Digest, IsDigest, digest_text, digest_of, prefix_of, hash_size}
use Rattle.upload_names.proofs.NameFacts.{IsName-from}
use Rattle.upload_names.proofs.DigestFacts.{digest_of-text}
use Rattle.upload_claims.specs.declared.fault.RecordFault.TheVariants.{BadName, BadDigest}
use Rattle.upload_claims.specs.declared.change.Place.{Place}
use Rattle.upload_claims.specs.declared.change.Place.TheVariants as places
use Rattle.upload_claims.specs.Fields.{both, number_at, text_at, measured, IsMeasured, name_of, name_at, digest_at}
use Rattle.upload_claims.specs.Fields.{IsReference, reference_at, placed_text, stretch_text, IsPlaced, IsStretch, in_record}
use Rattle.upload_claims.specs.Fields.{in_file, stretch_at}
use Rattle.upload_claims.proofs.Exact.{IsReadBack, both_again, made_again, tested_again, bytes_again, number64, text_again}

pub name_again : IsReadBack name_at measured (λ name. IsTrue (is_name name))
unfolding name_at
name_again =
    tested_again name_of BadName text_at measured IsMeasured (λ name. name) (λ name. IsTrue (is_name name)) text_again
    (λ y lawful. (rw lawful refl, (let short = (IsName-from y lawful).short in omega (arith, short))))

-- ---- digests

short_prefix : (algorithm : Algorithm) → length (prefix_of algorithm) ≡ 7
short_prefix Sha256 = refl
short_prefix Sha512 = refl

short_hash : (algorithm : Algorithm) → hash_size algorithm ≤ 64
short_hash Sha256 = lit≤ tt
short_hash Sha512 = lit≤ tt

short_digest : (digest : Digest) → IsDigest digest → IsMeasured (digest_text digest)
unfolding digest_text
short_digest digest d =
    omega (
      arith,
      length-append (prefix_of digest.algorithm) (encode_lower digest.bytes),
      short_prefix digest.algorithm,
      short_hash digest.algorithm,
      length-encode_with lower_digits digest.bytes,
    )

pub digest_again : IsReadBack digest_at (λ digest. measured (digest_text digest)) IsDigest
unfolding digest_at
digest_again =
    tested_again digest_of BadDigest text_at measured IsMeasured digest_text IsDigest text_again
    (λ y lawful. (digest_of-text y lawful, short_digest y lawful))

-- ---- references and stretches

pub reference_again : IsReadBack reference_at (λ at. at) IsReference
reference_again = bytes_again 16

abbrev IsPair : ℕ × ℕ → Type 0
IsPair p = (p.0 < 2 ^ 64) × (p.1 < 2 ^ 64)

abbrev pair_text : ℕ × ℕ → List ℕ
pair_text p = to_be_bytes w64 p.0 ++ to_be_bytes w64 p.1

pair_again : IsReadBack (both (number_at w64) (number_at w64)) pair_text IsPair
pair_again = both_again (number_at w64) (number_at w64) _ _ _ _ number64 number64

placed_again : (place : Place) (end : ℕ) (rest : List ℕ) → IsPlaced place end
    → stretch_at (placed_text place end ++ rest) ≡ Ok (record { place = place; end = end }, rest)
unfolding stretch_at
placed_again (places.Record number) end rest lawful =
    made_again in_record (both (number_at w64) (number_at w64)) pair_text IsPair pair_again (number, end) rest lawful
placed_again (places.File number) end rest lawful =
    made_again in_file (both (number_at w64) (number_at w64)) pair_text IsPair pair_again (number, end) rest lawful

pub stretch_again : IsReadBack stretch_at stretch_text IsStretch
stretch_again = record { again = λ s rest lawful. placed_again s.place s.end rest lawful }
