-- What a `Journal` shows.
use Rattle.std.specs.Prelude.{ℕ, ◌+◌, ◌-◌, Bool, List}
use Rattle.sqlite_disk.specs.declared.Disk.{Ghosts}
use Rattle.journal.specs.Format.{Kept, stored, sector}
use Rattle.journal.specs.declared.line.Line.{Line}
use Rattle.journal.specs.declared.journal.Journal.{Journal}

module _ {D : Type 0} {g : Ghosts D} where
  abbrev pub disk_of : Journal D g → D
  disk_of it = it.disk

  abbrev pub line_of : Journal D g → Line
  line_of it = it.line

  -- it was recovered, and nothing has failed since that leaves it in doubt what the file holds
  abbrev pub is_open : Journal D g → Bool
  is_open it = it.is_open

  -- where its shut gate stands, which is behind its batches
  abbrev pub end_of : Journal D g → ℕ
  end_of it = it.end

  -- how many batches it has
  abbrev pub count_of : Journal D g → ℕ
  count_of it = it.count

  -- the batches in the file
  abbrev pub kept : Journal D g → List Kept
  kept it = stored (g.seen it.disk)

  -- how many bytes of batches fit in what was written
  abbrev pub room_of : Journal D g → ℕ
  room_of it = it.len - (it.end + sector)
