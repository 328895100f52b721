-- What is claimed: tables without any bytes, and where the bytes are.
use Rattle.std.specs.Prelude.{ℕ, List, [], ◌∷◌, Option, Some, None}
use Rattle.std.specs.FinMap as map
use Rattle.std.specs.FinMap.{FinMap}
use Rattle.std.specs.FinSet as set
use Rattle.std.specs.FinSet.{FinSet}
use Rattle.upload_names.specs.Digest.{digest_cmp}
use Rattle.upload_service.specs.Machine.{Table, pair_cmp}
use Rattle.upload_claims.specs.declared.change.Stretch.{Stretch}

-- an open upload: its name, its bodies in order, and when it was begun or last took one
pub record Upload : Type 0 where
  pub name : List ℕ
  pub bodies : List Stretch
  pub seen : ℕ

-- The open uploads by their references, the bodies of each blob in order by its digest, each (name, digest) of a
-- repository that has a blob, up to which number all are used up, and up to which moment any may have been told.
pub record Claims : Type 0 where
  pub uploads : Table Upload
  pub blobs : FinMap digest_cmp (List Stretch)
  pub pairs : FinSet pair_cmp
  pub issued : ℕ
  pub told : ℕ

abbrev pub nothing : Claims
nothing = record { uploads = map.empty; blobs = map.empty; pairs = set.empty; issued = 0; told = 0 }

-- how many bytes these bodies have together, after so many
abbrev pub end_behind : ℕ → List Stretch → ℕ
end_behind n [] = n
end_behind n (b ∷ bs) = end_behind b.end bs

abbrev pub end_of : List Stretch → ℕ
end_of bodies = end_behind 0 bodies

-- how many bytes an upload has received, if it is claimed
abbrev pub received_by : Option Upload → ℕ
received_by None = 0
received_by (Some upload) = end_of upload.bodies
