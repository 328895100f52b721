-- What the stored blobs and their repositories stand for.
use Rattle.std.specs.Prelude.{◌≡◌, ℕ, Bool, true, false, not, List, [], ◌∷◌, ◌++◌, Option, Some, None, refl}
use Rattle.std.specs.Prelude.{map as list_map}
use Rattle.std.specs.Option.{option_map}
use Rattle.std.specs.List.{list_any}
use Rattle.std.specs.Coded.{Coded, code_by, coded×}
use Rattle.std.specs.FinMap as map
use Rattle.std.specs.FinMap.{FinMap}
use Rattle.std.specs.FinSet as set
use Rattle.std.specs.FinSet.{FinSet}
use Rattle.upload_names.specs.Digest.{Digest, digest_cmp}
use Rattle.upload_names.specs.declared.digest.Algorithm.TheVariants as algorithms
use Rattle.upload_service.specs.declared.stock.Item.{Item}
use Rattle.upload_service.specs.declared.stock.Key.{Key}
use Rattle.upload_service.specs.declared.stock.Key.TheVariants as keys
use Rattle.upload_service.specs.Machine.{same, same_digest, pair_cmp}
use Rattle.upload_service.specs.Codes.{bytes_code, digest_code, pair_code}
use Rattle.upload_service.specs.Kept.Entries.{kept_as}
use Rattle.upload_service.specs.Kept.Holders.{is_alone}

-- the blob of an item, if there is one
abbrev pub blob_in : Option Item → Option (List ℕ)
blob_in = option_map (λ item. item.blob)

-- whether a repository has the item, if there is one
abbrev pub is_held : List ℕ → Option Item → Bool
is_held name None = false
is_held name (Some item) = list_any (same name) item.holders

-- whether a repository has the item, if there is one, and no other has it
abbrev pub is_held_alone : List ℕ → Option Item → Bool
is_held_alone name None = false
is_held_alone name (Some item) = is_alone name item.holders

-- the blob, or no bytes if there is none
abbrev pub or_empty : Option (List ℕ) → List ℕ
or_empty None = []
or_empty (Some blob) = blob

abbrev pub sha256_digest : List ℕ → Digest
sha256_digest bytes = record { algorithm = algorithms.Sha256; bytes = bytes }

abbrev pub sha512_digest : List ℕ → Digest
sha512_digest bytes = record { algorithm = algorithms.Sha512; bytes = bytes }

-- the digest of a key
abbrev pub digest_at : Key → Digest
digest_at (keys.Sha256 bytes) = sha256_digest bytes
digest_at (keys.Sha512 bytes) = sha512_digest bytes

-- the items of both trees by their digests
abbrev pub rows : List (List ℕ × Item) → List (List ℕ × Item) → List (Digest × Item)
rows sha256s sha512s =
    list_map (λ e. (sha256_digest e.0, e.1)) sha256s ++ list_map (λ e. (sha512_digest e.0, e.1)) sha512s

-- the pairs of a digest with each of these names, and others
abbrev pub noted : Digest → List (List ℕ) → FinSet pair_cmp → FinSet pair_cmp
noted digest [] others = others
noted digest (name ∷ names) others = set.insert (noted digest names others) (name, digest)

-- each digest's pairs with the names that its item has; as in a map, the first item of a digest counts
abbrev pub pairs_of : List (Digest × Item) → FinSet pair_cmp
pairs_of [] = set.empty
pairs_of (e ∷ es) = noted e.0 e.1.holders (set.retain (pairs_of es) (λ p. not (same_digest p.1 e.0)))

-- the stored blobs by their digests, and the pairs of a repository's name and the digest of a blob that it has
pub record Stocked : Type 0 where
  pub blobs : FinMap digest_cmp (List ℕ)
  pub pairs : FinSet pair_cmp

abbrev pub stocked_code : Coded Stocked
stocked_code =
    code_by (FinMap digest_cmp (List ℕ) × FinSet pair_cmp)
    (coded× (map.code digest_code bytes_code) (set.code pair_code))
    (λ s. (s.blobs, s.pairs)) (λ p. record { blobs = p.0; pairs = p.1 }) (λ _. refl)

abbrev pub stocked : List (List ℕ × Item) → List (List ℕ × Item) → Stocked
stocked sha256s sha512s = record {
  blobs = kept_as digest_cmp (λ item. item.blob) (rows sha256s sha512s);
  pairs = pairs_of (rows sha256s sha512s);
}

-- each name of a pair is among those that blobs share
abbrev pub AreKnown : List (List ℕ) → FinSet pair_cmp → Type 0
AreKnown names pairs =
    (name : List ℕ) (digest : Digest) → set.contains pairs (name, digest) ≡ true → list_any (same name) names ≡ true
