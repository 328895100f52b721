-- Why a store gives up.
use Rattle.std.specs.Prelude.{◌≡◌, ◌⊎◌, ◌+◌, ◌<◌, ◌≤◌, ◌^◌, ℕ, List, length, false, IsTrue, IsSome, Contains, Option}
use Rattle.std.specs.Prelude.{Some}
use Rattle.sqlite_disk.specs.declared.Disk as disks
use Rattle.sqlite_disk.specs.Disk.{MoreFaults}
use Rattle.bodies.specs.declared.shelf.Shelf as shelves
use Rattle.bodies.specs.Faults.{Because}
use Rattle.journal.specs.declared.error.Error.{Error}
use Rattle.journal.specs.declared.error.Error.TheVariants as errors
use Rattle.bodies.specs.declared.fault.BodyFault.{BodyFault}
use Rattle.upload_store.specs.declared.fault.RefusedRecord.{RefusedRecord}
use Rattle.upload_store.specs.declared.fault.StoreFault.{StoreFault}
use Rattle.upload_store.specs.declared.fault.StoreFault.TheVariants.{Journal, Body, Record, NumbersUsedUp}

-- by what each comes: an error of the journal, a fault of a body, a record, and that no number is left
abbrev pub ComesBy : (Error → Type 0) → (BodyFault → Type 0) → (RefusedRecord → Type 0) → Type 0 → StoreFault → Type 0
ComesBy journal body refused used_up (Journal error) = journal error
ComesBy journal body refused used_up (Body fault) = body fault
ComesBy journal body refused used_up (Record it) = refused it
ComesBy journal body refused used_up NumbersUsedUp = used_up

-- the fault is this error of the journal, or the record that was refused
abbrev pub Names : Error → Option RefusedRecord → StoreFault → Type 0
Names (errors.Machine error) (Some it) fault = fault ≡ Record it
Names error _ fault = fault ≡ Journal error

abbrev pub Never : Type 0
Never = IsTrue false

abbrev pub NoJournal : Error → Type 0
NoJournal error = Never

abbrev pub NoBody : BodyFault → Type 0
NoBody fault = Never

abbrev pub NoRecord : RefusedRecord → Type 0
NoRecord it = Never

-- a call failed, and there is no other cause
abbrev pub OnlyFails : Type 0 → BodyFault → Type 0
OnlyFails failed = Because Never Never Never Never failed

-- there was no such file, or a call failed
abbrev pub Missed : Type 0 → Type 0 → BodyFault → Type 0
Missed missing failed = Because Never missing Never Never failed

-- a call of such a file failed
pub record FileFails {F : Type 0} (f : disks.Ghosts F) : Type 0 where
  pub old : F
  pub new : F
  pub more : MoreFaults (f.faults old) (f.faults new)

-- why a body of this length isn't written to its file
abbrev pub WriteFails : {F : Type 0} → disks.Ghosts F → ℕ → BodyFault → Type 0
WriteFails f len = Because Never Never Never (2 ^ 63 ≤ len) (FileFails f)

module _ {S F : Type 0} (s : shelves.Ghosts S F) (f : disks.Ghosts F) where
  -- Why one of these bodies, which get the numbers from this one on, isn't on the disk: one of the numbers has a file
  -- already; a sync of names has failed before; the body has 2^63 bytes or more; or a call failed, of the shelf or of a
  -- file.
  abbrev pub BodyFails : S → S → ℕ → List (List ℕ) → BodyFault → Type 0
  BodyFails old new first bodies = Because
      (s.IsClean new → (n : ℕ) × (first ≤ n) × (n < first + length bodies) × IsSome (s.held old n))
      Never (s.is_usable old ≡ false)
      ((body : List ℕ) × Contains bodies body × (2 ^ 63 ≤ length body))
      (MoreFaults (s.faults old) (s.faults new) ⊎ FileFails f)

  -- why a body that was begun isn't on the disk: the same, but its number had no file
  abbrev pub FillFails : S → S → List ℕ → BodyFault → Type 0
  FillFails old new body = Because
      Never Never (s.is_usable old ≡ false) (2 ^ 63 ≤ length body)
      (MoreFaults (s.faults old) (s.faults new) ⊎ FileFails f)
