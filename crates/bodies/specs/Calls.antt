-- The files of a folder, by what it held and the calls on it.
use Rattle.std.specs.Prelude.{◌≡◌, ◌≢◌, ◌⊎◌, ◌↔◌, ◌==◌, if◌then◌else◌, ℕ, Bool, List, [], ◌∷◌, Option, Some, None}
use Rattle.std.specs.Prelude.{◌+◌, Contains, IsSome, IsTrue, reverse}
use Rattle.bodies.specs.Shelf.{IsPiece}
use Rattle.bodies.specs.declared.fault.BodyFault.{BodyFault}
use Rattle.bodies.specs.declared.fault.BodyFault.TheVariants as faults
use Rattle.bodies.specs.declared.calls.Call.{Call}
use Rattle.bodies.specs.declared.calls.Call.TheVariants.{Made, Taken, Missing, Closed, Synced, Removed, Read, Whole, Listed}
use Rattle.bodies.specs.declared.calls.Call.TheVariants.{Failed}

-- by what a file holds, and what was held before the calls
module _ {F : Type 0} (seen : F → List ℕ) (start : ℕ → Option (List ℕ)) where
  -- the file of a number, the newest call first
  abbrev pub held_after : List (Call F) → ℕ → Option (List ℕ)
  held_after [] n = start n
  held_after (Made number ∷ earlier) n = if n == number then Some [] else held_after earlier n
  held_after (Closed number file ∷ earlier) n = if n == number then Some (seen file) else held_after earlier n
  held_after (Removed number ∷ earlier) n = if n == number then None else held_after earlier n
  held_after (_ ∷ earlier) n = held_after earlier n

  -- each answer is that of a folder with these files
  abbrev pub IsHonest : List (Call F) → Type 0
  IsHonest [] = Unit {0}
  IsHonest (Made number ∷ earlier) = IsHonest earlier × (held_after earlier number ≡ None)
  IsHonest (Taken number ∷ earlier) = IsHonest earlier × IsSome (held_after earlier number)
  IsHonest (Missing number ∷ earlier) = IsHonest earlier × (held_after earlier number ≡ None)
  IsHonest (Read number at n bytes ∷ earlier) = IsHonest earlier × IsPiece (held_after earlier number) at n bytes
  IsHonest (Whole number bytes ∷ earlier) =
      IsHonest earlier × (held_after earlier number ≡ Some (reverse bytes))
  IsHonest (Listed numbers ∷ earlier) =
      IsHonest earlier × ((n : ℕ) → Contains numbers.value.items n ↔ IsSome (held_after earlier n))
  IsHonest (_ ∷ earlier) = IsHonest earlier

  -- and by what a crash leaves of a file, and of which numbers the disk had what was held
  module _ (may_leave : F → List ℕ → Type 0) (is_kept : ℕ → Bool) where
    -- What a crash leaves: anything of a file that is being written; of one that is closed, none or what a crash leaves
    -- of it, and not none once its name is synced. One that was removed may come back.
    abbrev pub left_after : List (Call F) → ℕ → Option (List ℕ) → Type 0
    left_after [] n left = IsTrue (is_kept n) → left ≡ start n
    left_after (Made number ∷ earlier) n left = n ≢ number → left_after earlier n left
    left_after (Closed number file ∷ earlier) n left =
        (n ≢ number → left_after earlier n left)
        × (n ≡ number → (left ≡ None) ⊎ ((bytes : List ℕ) × may_leave file bytes × (left ≡ Some bytes)))
    left_after (Removed number ∷ earlier) n left =
        (n ≡ number → left ≢ None → left_after earlier n left) × (n ≢ number → left_after earlier n left)
    left_after (Synced number ∷ earlier) n left =
        left_after earlier n left × (n ≡ number → IsSome (held_after earlier n) → IsSome left)
    left_after (_ ∷ earlier) n left = left_after earlier n left

-- how many calls failed, or found no memory
abbrev pub failed_in : {F : Type 0} → List (Call F) → ℕ
failed_in [] = 0
failed_in (Failed ∷ earlier) = failed_in earlier + 1
failed_in (_ ∷ earlier) = failed_in earlier

-- a call of this number that was refused: what is told of it is noted, that there is no file, or that the call failed
abbrev pub Refused : {F : Type 0} → ℕ → BodyFault → List (Call F) → List (Call F) → Type 0
Refused number faults.Missing old new = new ≡ Missing number ∷ old
Refused number (faults.Io _) old new = new ≡ Failed ∷ old
Refused number _ old new = ⊥

-- a name for this number that was refused: what is told of it is noted, that there is a file, or that the call failed
abbrev pub RefusedName : {F : Type 0} → ℕ → BodyFault → List (Call F) → List (Call F) → Type 0
RefusedName number faults.Taken old new = new ≡ Taken number ∷ old
RefusedName number (faults.Io _) old new = new ≡ Failed ∷ old
RefusedName number _ old new = ⊥
