-- Which bytes a file of a spool was given.
use Rattle.std.specs.Prelude.{◌≡◌, ℕ, List, ⊤}
use Rattle.upload_bytes.specs.declared.spool.Place.{Place}
use Rattle.upload_bytes.specs.declared.spool.Place.TheVariants.{Disk, Memory}
use Rattle.upload_bytes.specs.declared.spool.Kept.{Kept}
use Rattle.upload_bytes.specs.declared.spool.Kept.TheVariants as kept

abbrev pub given_to : Place → List ℕ
given_to (Disk rt path file given) = given
given_to (Memory bytes) = bytes.items

-- one that is written no more, and is in memory, has just these bytes
abbrev pub IsKept : Kept → List ℕ → Type 0
IsKept (kept.Disk rt spool made named) given = ⊤
IsKept (kept.Memory bytes) given = bytes.items ≡ given
