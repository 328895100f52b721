-- Files by their numbers, and what a crash may leave of them.
use Rattle.std.specs.Prelude.{◌≡◌, ◌≢◌, ◌≤◌, ◌<◌, ℕ, List, length, take, drop, Option, Some, None, Result}
use Rattle.std.specs.Prelude.{MatchResult}
use Rattle.sqlite_disk.specs.Disk.{MoreFaults}
use Rattle.bodies.specs.declared.fault.BodyFault.{BodyFault}
use Rattle.bodies.specs.Faults.{Because}

-- by the file of each number, and by what a crash may leave of it
module _ {S : Type 0} (held : S → ℕ → Option (List ℕ)) (may_leave : S → ℕ → Option (List ℕ) → Type 0) where
  -- The file of this number is as it was, and a crash leaves nothing of it that it couldn't leave before.
  pub record Keeps (old new : S) (number : ℕ) : Type 0 where
    pub same : held new number ≡ held old number
    pub left : (file : Option (List ℕ)) → may_leave new number file → may_leave old number file

  -- so it is of every number
  pub record KeepsAll (old new : S) : Type 0 where
    pub each : (number : ℕ) → Keeps old new number

  -- so it is of every number but this one
  pub record KeepsOthers (old new : S) (number : ℕ) : Type 0 where
    pub each : (other : ℕ) → other ≢ number → Keeps old new other

-- these bytes, n of which were asked for, are those of the file at this offset, and none only at its end
abbrev pub IsPiece : Option (List ℕ) → ℕ → ℕ → List ℕ → Type 0
IsPiece None at n bytes = ⊥
IsPiece (Some file) at n bytes =
    (bytes ≡ take (length bytes) (drop at file)) × (length bytes ≡ 0 → 0 < n → length file ≤ at)

-- every crash leaves exactly these bytes at this number
abbrev pub Stored : {S : Type 0} → (S → ℕ → Option (List ℕ) → Type 0) → S → ℕ → List ℕ → Type 0
Stored may_leave shelf number bytes = (left : Option (List ℕ)) → may_leave shelf number left → left ≡ Some bytes

-- A call of a shelf, by the count of its faults: only one that failed is counted. Another error says that a body of the
-- number is there, or that none is.
abbrev pub Counts : {T : Type 0} → (taken missing : Type 0) → Result T BodyFault → ℕ → ℕ → Type 0
Counts taken missing result old new =
    MatchResult result (λ _. new ≡ old)
    (Because (taken × (new ≡ old)) (missing × (new ≡ old)) ⊥ ⊥ (MoreFaults old new × (old ≤ new)))
