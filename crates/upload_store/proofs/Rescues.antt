-- Records of a journal, one after the other, behind records that are lost.
use Rattle.std.proofs.Common.{◌≡◌, ℕ, ◌≤◌, List, Option, None, rules}
use Rattle.std.proofs.Common.{refl}
use Rattle.std.proofs.Common.{arith, Bool, true, false, cond, Result}
use Rattle.sqlite_disk.specs.Disk.{MoreFaults}
use Rattle.bodies.specs.declared.fault.BodyFault.{BodyFault as ShelfFault}
use Rattle.bodies.specs.Faults.{Because}
use Rattle.bodies.specs.Shelf.{KeepsAll}
use Rattle.upload_journal.specs.declared.entries.Entry.{Entry}
use Rattle.upload_journal.specs.declared.fault.EntryFault.{EntryFault}
use Rattle.upload_store.specs.Salvage.{Stand, ready}
use Rattle.upload_store.specs.Rescuing.{Since, RefusedSince, fault_told}
use Rattle.upload_store.proofs.Reading.{reads_then}

pub by_test : {A : Type 0} (P : A → Type 0) (b : Bool) (x y : A) → (b ≡ true → P x) → (b ≡ false → P y) → P (cond b x y)
by_test P true x y first second = first refl
by_test P false x y first second = second refl

-- where nothing is lost, a record is run where those before it led to
pub ready_first : (it : Stand) (read : Result Entry EntryFault) → it.lost ≡ 0 → ready it read ≡ it.point
ready_first it read none = cc

-- ---- reads of a shelf

pub fault_fewer : (taken missing : Type 0) (old new : ℕ) (fault : ShelfFault)
    → Because (taken × (new ≡ old)) (missing × (new ≡ old)) ⊥ ⊥ (MoreFaults old new × (old ≤ new)) fault → old ≤ new
fault_fewer taken missing old new fault why = search (rules, arith)

module _ {S : Type 0} (held : S → ℕ → Option (List ℕ)) (may_leave : S → ℕ → Option (List ℕ) → Type 0)
    (IsClean : S → Type 0) (faults : S → ℕ) where
  pub since_then : (old mid new : S) → Since held may_leave IsClean faults old mid
      → Since held may_leave IsClean faults mid new → Since held may_leave IsClean faults old new
  since_then old mid new first second = search (rules, arith, reads_then)

  pub refused_as : (first old new : S) (number : ℕ) → faults first ≤ faults old → KeepsAll held may_leave old new
      → (fault : ShelfFault)
      → Because (⊥ × (faults new ≡ faults old)) ((IsClean new → held old number ≡ None) × (faults new ≡ faults old)) ⊥ ⊥
      (MoreFaults (faults old) (faults new) × (faults old ≤ faults new)) fault
      → RefusedSince held may_leave IsClean faults first new number (fault_told fault)
  refused_as first old new number fewer same fault why = search (rules, arith)
