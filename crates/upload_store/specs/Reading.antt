-- What is known of a shelf that bodies are read from.
use Rattle.std.specs.Prelude.{◌≡◌, ◌≤◌, ℕ, List, Option, Some}
use Rattle.bodies.specs.Shelf.{KeepsAll}

-- by the file of each number, by what a crash may leave of it, and by whether no wrong answer was taken as true
module _ {S : Type 0} (held : S → ℕ → Option (List ℕ)) (may_leave : S → ℕ → Option (List ℕ) → Type 0)
    (IsClean : S → Type 0) where
  -- nothing is changed
  pub record ReadsOnly (old new : S) : Type 0 where
    pub all : KeepsAll held may_leave old new
    pub clean : IsClean new → IsClean old

-- these bytes are the file of this number
abbrev pub StandsIn : {S : Type 0} → (S → ℕ → Option (List ℕ)) → (S → Type 0) → S → ℕ → List ℕ → Type 0
StandsIn held IsClean shelf number bytes = IsClean shelf → held shelf number ≡ Some bytes

-- the files of the numbers from this one on are as they were
abbrev pub KeepsBehind : {S : Type 0} → (S → ℕ → Option (List ℕ)) → S → S → ℕ → Type 0
KeepsBehind held old new first = (n : ℕ) → first ≤ n → held new n ≡ held old n
