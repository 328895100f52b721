-- What a record makes of a service in a recovery that goes on, with the bodies of a shelf.
use Rattle.std.specs.Prelude.{◌≡◌, ◌≤◌, ℕ, List, Option, Some, None}
use Rattle.sqlite_disk.specs.Disk.{MoreFaults}
use Rattle.bodies.specs.declared.fault.BodyFault.{BodyFault as ShelfFault}
use Rattle.bodies.specs.declared.fault.BodyFault.TheVariants as shelves
use Rattle.upload_journal.specs.declared.bodies.BodyFault.{BodyFault}
use Rattle.upload_journal.specs.declared.bodies.BodyFault.TheVariants as bodies
use Rattle.upload_journal.specs.declared.replay.ReplayFault.TheVariants as faults
use Rattle.upload_store.specs.declared.fault.RefusedRecord.{RefusedRecord}
use Rattle.upload_store.specs.Reading.{ReadsOnly, StandsIn}
use Rattle.upload_store.specs.Salvage.{Stand, Salvages}

-- a fault of a shelf, as it is told of a body
abbrev pub fault_told : ShelfFault → BodyFault
fault_told shelves.Missing = bodies.NotThere
fault_told _ = bodies.NotRead

module _ {S : Type 0} (held : S → ℕ → Option (List ℕ)) (may_leave : S → ℕ → Option (List ℕ) → Type 0)
    (IsClean : S → Type 0) (faults : S → ℕ) where
  -- nothing is changed, and no fault is forgotten
  abbrev pub Since : S → S → Type 0
  Since old new = ReadsOnly held may_leave IsClean old new × (faults old ≤ faults new)

  -- why a file wasn't read
  abbrev pub RefusedSince : S → S → ℕ → BodyFault → Type 0
  RefusedSince old new number bodies.NoMemory = Unit {0}
  RefusedSince old new number bodies.NotThere = IsClean new → held new number ≡ None
  RefusedSince old new number bodies.NotRead = MoreFaults (faults old) (faults new)

  pub record Rescues (old : S) (before : Stand) (time : ℕ) (text : List ℕ) (new : S) (after : Stand) : Type 0 where
    pub does : Salvages (StandsIn held IsClean new) (RefusedSince old new) before time text after
    pub since : Since old new

-- what was refused was so for want of memory
abbrev pub LacksMemory : Option RefusedRecord → Type 0
LacksMemory None = ⊥
LacksMemory (Some it) = it.fault ≡ faults.NoMemory
