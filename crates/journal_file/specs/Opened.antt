-- A file as it was opened.
use Rattle.std.specs.Prelude.{◌≡◌, IsTrue}
use Rattle.sqlite_disk.specs.declared.modelled.Modelled.{Modelled}
use Rattle.sqlite_disk.specs.declared.calls.Calls as calls
use Rattle.sqlite_disk.specs.declared.start.Start.{Ghosts}
use Rattle.sqlite_disk.specs.Modelled.{start_of}
use Rattle.sqlite_disk.specs.Disk.{Only}
use Rattle.sqlite_disk.specs.Events.{Model, replay}
use Rattle.sqlite_disk.specs.History.{MayLeave}
use Rattle.journal_file.specs.declared.host.Host.{Host}

module _ {S : Type 0} {g : calls.Ghosts Host} where
  -- what the record of its calls says of a file
  abbrev pub model_of : (start : Ghosts S) → Modelled Host S g start → Model
  model_of start file = replay (start_of start file) file.calls.calls

  -- A read finds what `S` says, and a crash leaves that. No sync has failed, and no answer was wrong.
  pub record IsJustOpened (start : Ghosts S) (file : Modelled Host S g start) : Type 0 where
    pub seen : (model_of start file).seen ≡ start.db
    pub left : let m = model_of start file in Only start.db (MayLeave start.is_mixing m.seen m.synced m.steps)
    pub usable : IsTrue (model_of start file).is_usable
    pub clean : IsTrue (model_of start file).is_honest
