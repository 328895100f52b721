-- Changes that are written from claims alone, so that no body is read for them. The last entries come first: a fold of
-- them then puts the tables together as they are put together from their entries.
use Rattle.std.specs.Prelude.{◌≡◌, ℕ, List, [], ◌∷◌, ◌++◌}
use Rattle.std.specs.FinMap as map
use Rattle.std.specs.FinSet as set
use Rattle.upload_names.specs.Digest.{Digest}
use Rattle.upload_claims.specs.declared.change.Stretch.{Stretch}
use Rattle.upload_claims.specs.declared.change.Change.{Change}
use Rattle.upload_claims.specs.declared.change.Change.TheVariants as changes
use Rattle.upload_claims.specs.Claims.{Upload, Claims, nothing}
use Rattle.upload_claims.specs.Fold.{fold}

-- an upload's bodies, after so many bytes
abbrev pub bodies_taken : List ℕ → ℕ → ℕ → List Stretch → List Change
bodies_taken at seen from [] = []
bodies_taken at seen from (b ∷ bs) = changes.Took at seen from b ∷ bodies_taken at seen b.end bs

abbrev pub upload_changes : List ℕ × Upload → List Change
upload_changes (at, u) = changes.Began at u.name u.seen ∷ bodies_taken at u.seen 0 u.bodies

-- a blob's bodies, after so many bytes
abbrev pub bodies_joined : Digest → ℕ → List Stretch → List Change
bodies_joined digest from [] = []
bodies_joined digest from (b ∷ bs) = changes.Joined digest from b ∷ bodies_joined digest b.end bs

abbrev pub blob_changes : Digest × List Stretch → List Change
blob_changes (digest, bodies) = changes.Laid digest ∷ bodies_joined digest 0 bodies

abbrev pub pair_changes : List ℕ × Digest → List Change
pair_changes (name, digest) = changes.Has name digest ∷ []

-- the changes of each, those of the last first
abbrev pub from_last : {A : Type 0} → (A → List Change) → List A → List Change
from_last f [] = []
from_last f (x ∷ xs) = from_last f xs ++ f x

abbrev pub checkpoint : Claims → List Change
checkpoint c =
    changes.NumbersUpTo c.issued ∷ changes.MomentsUpTo c.told
    ∷ (from_last upload_changes (map.entries c.uploads)
    ++ (from_last blob_changes (map.entries c.blobs) ++ from_last pair_changes (set.items c.pairs)))

-- a start that reads a checkpoint has the same claims
abbrev pub CheckpointIsEnough : Type 0
CheckpointIsEnough = (c : Claims) → fold nothing (checkpoint c) ≡ c
