-- Digests (OCI Image Specification 1.1, section "Digests"): an algorithm and the bytes that it gives.
use Rattle.std.specs.Prelude.{◌≡◌, ℕ, ◌<◌, ◌&&◌, ◌||◌, nat_le, Bool, List, ◌∷◌, ◌++◌, length, drop, codes, All, Option}
use Rattle.std.specs.Prelude.{Some, None, option_map, if◌then◌else◌}
use Rattle.std.specs.List.{list_all, starts_with}
use Rattle.std.specs.Result.{result_ok}
use Rattle.std.specs.Prelude.{nat_eq}
use Rattle.std.specs.declared.cmp.Ordering.{Ordering}
use Rattle.std.specs.Ordering.{nat_cmp, on, eq_by_cmp}
use Rattle.std.specs.Cmp.{IsEquivalence, IsTotalOrder, IsPartialOrder, po}
use Rattle.std.specs.Cmp.Lexicographic.{slice_cmp, pointwise, on_texts, on_texts_equal, texts_ties}
use Rattle.sha2.specs.Sha256.{sha256}
use Rattle.sha2.specs.Sha512.{sha512}
use Rattle.hex.specs.Hex.{encode_lower, decode_sized}
use Rattle.upload_names.specs.declared.digest.Algorithm.{Algorithm}
use Rattle.upload_names.specs.declared.digest.Algorithm.TheVariants.{Sha256, Sha512}

pub record Digest : Type 0 where
  pub algorithm : Algorithm
  pub bytes : List ℕ

-- what an algorithm gives for a content (FIPS 180-4)
abbrev pub hash : Algorithm → List ℕ → List ℕ
hash Sha256 content = sha256 content
hash Sha512 content = sha512 content

-- how many bytes an algorithm gives
abbrev pub hash_size : Algorithm → ℕ
hash_size Sha256 = 32
hash_size Sha512 = 64

-- a digest has as many bytes as its algorithm gives
pub record IsDigest (digest : Digest) : Type 0 where
  pub sized : length digest.bytes ≡ hash_size digest.algorithm
  pub bytes : All (λ b. b < 256) digest.bytes

-- the digest of a content by an algorithm
abbrev pub content_digest : Algorithm → List ℕ → Digest
content_digest algorithm content = record { algorithm = algorithm; bytes = hash algorithm content }

-- the content has this digest, by the algorithm of that digest
abbrev pub HasDigest : List ℕ → Digest → Type 0
HasDigest content digest = content_digest digest.algorithm content ≡ digest

-- what stands before the digits
abbrev pub prefix_of : Algorithm → List ℕ
prefix_of Sha256 = codes "sha256:"
prefix_of Sha512 = codes "sha512:"

-- the text of a digest: its algorithm, a colon, and two digits of 0 to 9 and a to f for each byte
unfoldable pub digest_text : Digest → List ℕ
digest_text digest = prefix_of digest.algorithm ++ encode_lower digest.bytes

-- The text spells the digest.
abbrev pub SpellsDigest : List ℕ → Digest → Type 0
SpellsDigest text digest = IsDigest digest × (text ≡ digest_text digest)

-- a digit of 0 to 9 and a to f
abbrev pub is_lower_digit : ℕ → Bool
is_lower_digit c = (nat_le 48 c && nat_le c 57) || (nat_le 97 c && nat_le c 102)

-- the bytes that so many pairs of lower case digits spell
abbrev pub digits_read : ℕ → List ℕ → Option (List ℕ)
digits_read size digits = if list_all is_lower_digit digits then result_ok (decode_sized digits size) else None

abbrev pub read_by : Algorithm → List ℕ → Option Digest
read_by algorithm digits =
    option_map (λ bytes. record { algorithm = algorithm; bytes = bytes }) (digits_read (hash_size algorithm) digits)

-- the digest that a text spells, if it spells one
unfoldable pub digest_of : List ℕ → Option Digest
digest_of text =
    if starts_with nat_eq text (prefix_of Sha256) then read_by Sha256 (drop 7 text)
    else if starts_with nat_eq text (prefix_of Sha512) then read_by Sha512 (drop 7 text)
    else None

-- an order of digests, for tables: those of sha256 first, and then by their bytes
abbrev pub rank : Algorithm → ℕ
rank Sha256 = 0
rank Sha512 = 1

abbrev pub digest_key : Digest → List ℕ
digest_key digest = rank digest.algorithm ∷ digest.bytes

abbrev pub digest_cmp : Digest → Digest → Ordering
digest_cmp = on digest_key (slice_cmp nat_cmp)

abbrev pub digest_eq : Digest → Digest → Bool
digest_eq a b = pointwise nat_eq (digest_key a) (digest_key b)

-- the laws of both

pub digest_eq_laws : IsEquivalence digest_eq
digest_eq_laws = on_texts_equal digest_key

pub digest_cmp_total : IsTotalOrder digest_cmp
digest_cmp_total = on_texts digest_key

pub digest_ties : (a b : Digest) → digest_eq a b ≡ eq_by_cmp digest_cmp a b
digest_ties a b = texts_ties (digest_key a) (digest_key b)

pub digest_order : IsPartialOrder digest_eq (λ a b. Some (digest_cmp a b))
digest_order = po digest_cmp_total digest_ties
