-- The length of a digest's text.
use Rattle.std.proofs.Common.{◌≡◌, ℕ, ◌≤◌, List, length, ap, refl, lit≤, arith, length-append}
use Rattle.std.specs.Prelude.{Some}
use Rattle.hex.specs.Hex.{encode_lower, lower_digits}
use Rattle.hex.proofs.HexLemmas.{length-encode_with}
use Rattle.upload_names.specs.declared.digest.Algorithm.{Algorithm}
use Rattle.upload_names.specs.declared.digest.Algorithm.TheVariants.{Sha256, Sha512}
use Rattle.upload_names.specs.Digest.{Digest, digest_of, digest_text, prefix_of, hash_size}
use Rattle.upload_names.proofs.DigestFacts.{digest_of-spells}

short_prefix : (algorithm : Algorithm) → length (prefix_of algorithm) ≡ 7
short_prefix Sha256 = refl
short_prefix Sha512 = refl

short_hash : (algorithm : Algorithm) → hash_size algorithm ≤ 64
short_hash Sha256 = lit≤ tt
short_hash Sha512 = lit≤ tt

-- a text that a digest is read from has at most 135 bytes
pub short_text : (text : List ℕ) (digest : Digest) → digest_of text ≡ Some digest → length text ≤ 135
unfolding digest_text
short_text text digest read =
    let spelled = digest_of-spells text digest read in
    omega (
      arith,
      ap length spelled.1,
      length-append (prefix_of digest.algorithm) (encode_lower digest.bytes),
      short_prefix digest.algorithm,
      short_hash digest.algorithm,
      spelled.0.sized,
      length-encode_with lower_digits digest.bytes,
    )
