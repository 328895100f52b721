-- A cause that is told of a part of a call is one of the whole.
use Rattle.std.proofs.Common.{◌≡◌, ℕ, ◌+◌, ◌≤◌, List, ◌++◌, length, false, rules}
use Rattle.std.proofs.Common.{arith, length-append}
use Rattle.std.specs.Prelude.{Result}
use Rattle.std.proofs.lemmas.List.Elements.{Contains-append_left, Contains-append_right}
use Rattle.sqlite_disk.specs.declared.Disk as disks
use Rattle.bodies.specs.declared.fault.BodyFault.{BodyFault}
use Rattle.bodies.specs.declared.shelf.Shelf as shelves
use Rattle.bodies.specs.Faults.{Because}
use Rattle.bodies.specs.Shelf.{Counts}
use Rattle.journal.specs.Errors.{WhyNot}
use Rattle.journal.specs.declared.error.Error.{Error}
use Rattle.upload_store.specs.declared.fault.RefusedRecord.{RefusedRecord}
use Rattle.upload_store.specs.declared.fault.StoreFault.{StoreFault}
use Rattle.upload_store.specs.Faults.{BodyFails, ComesBy}

pub fault_weaker : (taken taken2 missing missing2 ended ended2 long long2 failed failed2 : Type 0) → (taken → taken2)
    → (missing → missing2) → (ended → ended2) → (long → long2) → (failed → failed2) → (fault : BodyFault)
    → Because taken missing ended long failed fault → Because taken2 missing2 ended2 long2 failed2 fault
fault_weaker taken taken2 missing missing2 ended ended2 long long2 failed failed2 a b c d e fault why =
    search (rules, arith)

-- a call never counts down
pub counts_up : {T : Type 0} (taken missing : Type 0) (result : Result T BodyFault) (old new : ℕ)
    → Counts taken missing result old new → old ≤ new
counts_up taken missing h old new same = search (rules, arith)

module _ {S F : Type 0} (s : shelves.Ghosts S F) (f : disks.Ghosts F) where
  -- what is told of bodies behind others is told of all
  pub fails_behind : (old mid new : S) (first : ℕ) (front bodies : List (List ℕ))
      → (s.IsClean new → (n : ℕ) → first + length front ≤ n → s.held mid n ≡ s.held old n)
      → (s.is_usable mid ≡ false → s.is_usable old ≡ false) → s.faults old ≤ s.faults mid → (fault : BodyFault)
      → BodyFails s f mid new (first + length front) bodies fault → BodyFails s f old new first (front ++ bodies) fault
  fails_behind old mid new first front bodies same usable fewer =
      search (rules, arith, fault_weaker, length-append, Contains-append_right)

  -- and what is told of the first ones
  pub fails_among : (old new : S) (first : ℕ) (bodies more : List (List ℕ)) (fault : BodyFault)
      → BodyFails s f old new first bodies fault → BodyFails s f old new first (bodies ++ more) fault
  fails_among old new first bodies more = search (rules, arith, fault_weaker, length-append, Contains-append_left)

pub comes_weaker : (J J2 : Error → Type 0) (B B2 : BodyFault → Type 0) (R R2 : RefusedRecord → Type 0) (U U2 : Type 0)
    → ((error : Error) → J error → J2 error) → ((fault : BodyFault) → B fault → B2 fault)
    → ((record' : RefusedRecord) → R record' → R2 record') → (U → U2) → (fault : StoreFault) → ComesBy J B R U fault
    → ComesBy J2 B2 R2 U2 fault
comes_weaker J J2 B B2 R R2 U U2 a b c d fault why = search (rules, arith)

pub why_not_weaker : (closed closed2 long long2 disk disk2 same same2 : Type 0) → (closed → closed2) → (long → long2)
    → (disk → disk2) → (same → same2) → (error : Error) → WhyNot closed long disk same error
    → WhyNot closed2 long2 disk2 same2 error
why_not_weaker closed closed2 long long2 disk disk2 same same2 a b c d error why = search (rules, arith)
