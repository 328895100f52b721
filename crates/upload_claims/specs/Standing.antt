-- What claims stand for over a disk.
use Rattle.std.specs.Prelude.{◌≡◌, ℕ, List, [], ◌∷◌, ◌++◌, length, Some, map as list_map}
use Rattle.std.specs.declared.cmp.Ordering.{Ordering}
use Rattle.std.specs.FinMap as map
use Rattle.std.specs.FinMap.{FinMap}
use Rattle.upload_names.specs.Digest.{Digest}
use Rattle.upload_service.specs.declared.limits.Limits.{Limits}
use Rattle.upload_service.specs.Machine.{Session, State}
use Rattle.upload_claims.specs.declared.change.Place.{Place}
use Rattle.upload_claims.specs.declared.change.Stretch.{Stretch}
use Rattle.upload_claims.specs.Claims.{Upload, Claims, end_of}

-- what is at each place
abbrev pub Disk : Type 0
Disk = Place → List ℕ

-- the bodies one after another
abbrev pub bytes_in : Disk → List Stretch → List ℕ
bytes_in disk [] = []
bytes_in disk (b ∷ bs) = disk b.place ++ bytes_in disk bs

abbrev pub session_in : Disk → Upload → Session
session_in disk upload = record { name = upload.name; received = bytes_in disk upload.bodies; seen = upload.seen }

-- the same table with another value under each key
abbrev pub each_as : {K X Y : Type 0} {R : K → K → Ordering} → (X → Y) → FinMap R X → FinMap R Y
each_as f m = map.from_sorted (list_map (λ e. (e.0, f e.1)) (map.entries m))

-- the state of a service that keeps these limits and has just what is claimed
abbrev pub state_in : Disk → Limits → Claims → State
state_in disk limits c = record {
  limits = limits;
  issued = c.issued;
  sessions = each_as (session_in disk) c.uploads;
  blobs = each_as (bytes_in disk) c.blobs;
  pairs = c.pairs;
}

-- each length that is claimed is the length that is there
pub record AreSized (disk : Disk) (c : Claims) : Type 0 where
  pub uploads : (at : List ℕ) (upload : Upload) → map.get c.uploads at ≡ Some upload
      → end_of upload.bodies ≡ length (bytes_in disk upload.bodies)
  pub blobs : (digest : Digest) (bodies : List Stretch) → map.get c.blobs digest ≡ Some bodies
      → end_of bodies ≡ length (bytes_in disk bodies)
