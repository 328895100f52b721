-- A file that was made in a folder.
use Rattle.std.specs.Prelude.{◌≡◌, ℕ, List}
use Rattle.sqlite_disk.specs.declared.start.Start.{Ghosts}
use Rattle.sqlite_disk.specs.History.{MayLeave}
use Rattle.journal_file.specs.Opened.{model_of}
use Rattle.bodies.specs.declared.closed.Closed.{Closed}
use Rattle.bodies.specs.declared.closed.Closed.TheVariants.{Written, Whole}

module _ {S : Type 0} (start : Ghosts S) where
  -- its member `seen`, or the bytes that it has
  abbrev pub seen_of : Closed S start → List ℕ
  seen_of (Written file) = (model_of start file.value).seen
  seen_of (Whole file) = file.value

  -- its member `may_leave`, or just those bytes
  abbrev pub may_leave_of : Closed S start → List ℕ → Type 0
  may_leave_of (Written file) bytes =
      let m = model_of start file.value in MayLeave start.is_mixing m.seen m.synced m.steps bytes
  may_leave_of (Whole file) bytes = bytes ≡ file.value
