-- What is lost with a record that is lost: what its changes name, the same reference or the same digest, and nothing
-- else.
use Rattle.std.specs.Prelude.{◌≡◌, ◌≢◌, ℕ, ◌&&◌, ◌||◌, Bool, true, false, List, [], ◌∷◌, ◌++◌, Some}
use Rattle.std.specs.List.{AllByRecursion}
use Rattle.std.specs.FinMap as map
use Rattle.std.specs.FinSet as set
use Rattle.upload_names.specs.Digest.{Digest}
use Rattle.upload_service.specs.Machine.{same, same_digest}
use Rattle.upload_claims.specs.declared.change.Change.{Change}
use Rattle.upload_claims.specs.declared.change.Change.TheVariants as changes
use Rattle.upload_claims.specs.Claims.{Upload, Claims}
use Rattle.upload_claims.specs.Fold.{fold}

-- the change names this reference
abbrev pub names : Change → List ℕ → Bool
names (changes.Began to name now) at = same at to
names (changes.Took to now from stretch) at = same at to
names (changes.Seen to now) at = same at to
names (changes.Closed to digest end) at = same at to
names other at = false

-- it may have to do with the upload of this reference
abbrev pub touches : Change → List ℕ → Bool
touches (changes.LapsedBefore moment) at = true
touches other at = names other at

-- it names this digest as a blob's
abbrev pub stores : Change → Digest → Bool
stores (changes.Closed to digest end) q = same_digest q digest
stores (changes.Stored digest stretch) q = same_digest q digest
stores (changes.Laid digest) q = same_digest q digest
stores (changes.Joined digest from stretch) q = same_digest q digest
stores other q = false

abbrev pub any : {A : Type 0} → (A → Bool) → List A → Bool
any f [] = false
any f (x ∷ xs) = f x || any f xs

-- it closes an upload with which one of the lost ones may have had to do, and its blob has this digest
abbrev pub rests_on : List Change → Digest → Change → Bool
rests_on lost q (changes.Closed to digest end) = any (λ x. touches x to) lost && same_digest q digest
rests_on lost q other = false

abbrev pub without : Claims → List Change → List Change → List Change → Claims
without c front lost rest = fold c (front ++ rest)

abbrev pub whole : Claims → List Change → List Change → List Change → Claims
whole c front lost rest = fold c (front ++ (lost ++ rest))

pub record OnlyItsOwnIsLost : Type 0 where
  -- each upload with which the lost changes have nothing to do is claimed as if they weren't lost
  pub uploads : (c : Claims) (front lost rest : List Change) (at : List ℕ) → any (λ x. touches x at) lost ≡ false
      → map.get (without c front lost rest).uploads at ≡ map.get (whole c front lost rest).uploads at
  -- by a lost sweep no upload is lost
  pub sweeps : (c : Claims) (front lost rest : List Change) (at : List ℕ) (upload : Upload)
      → any (λ x. names x at) lost ≡ false → map.get (whole c front lost rest).uploads at ≡ Some upload
      → map.get (without c front lost rest).uploads at ≡ Some upload
  -- so is each blob that they don't store, unless that was closed since from an upload with which they have to do
  pub blobs : (c : Claims) (front lost rest : List Change) (digest : Digest) → any (λ x. stores x digest) lost ≡ false
      → AllByRecursion (λ y. rests_on lost digest y ≡ false) rest
      → map.get (without c front lost rest).blobs digest ≡ map.get (whole c front lost rest).blobs digest
  -- and each pair but their own
  pub pairs : (c : Claims) (front lost rest : List Change) (name : List ℕ) (digest : Digest)
      → AllByRecursion (λ x. x ≢ changes.Has name digest) lost
      → set.contains (without c front lost rest).pairs (name, digest)
      ≡ set.contains (whole c front lost rest).pairs (name, digest)
  -- no pair is claimed that else wasn't
  pub no_more : (c : Claims) (front lost rest : List Change) (name : List ℕ) (digest : Digest)
      → set.contains (without c front lost rest).pairs (name, digest) ≡ true
      → set.contains (whole c front lost rest).pairs (name, digest) ≡ true
