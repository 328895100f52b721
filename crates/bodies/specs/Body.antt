-- What a body that is being written shows.
use Rattle.std.specs.Prelude.{ℕ, Bool, List}
use Rattle.sqlite_disk.specs.declared.Disk.{Ghosts}
use Rattle.bodies.specs.declared.body.Body.{Body}

module _ {D : Type 0} {g : Ghosts D} where
  abbrev pub number_of : Body D g → ℕ
  number_of body = body.number

  -- what was appended, in order
  abbrev pub bytes_of : Body D g → List ℕ
  bytes_of body = g.seen body.file

  -- no call has failed after which its file may have other bytes
  abbrev pub is_open : Body D g → Bool
  is_open body = body.is_open

  abbrev pub file_of : Body D g → D
  file_of body = body.file
