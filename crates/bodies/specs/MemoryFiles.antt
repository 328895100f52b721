-- The files of a shelf in memory, by its calls.
use Rattle.std.specs.Prelude.{◌≡◌, ℕ, List, true, false, reverse, Option, Some, None, Contains, IsSome}
use Rattle.sqlite_disk.specs.declared.memory.Memory.{Memory}
use Rattle.sqlite_disk.specs.Memory.{memory_bytes}
use Rattle.sqlite_disk.specs.History.{MayLeave, steps_of}
use Rattle.bodies.specs.Calls.{held_after, left_after}
use Rattle.bodies.specs.declared.calls.Call.{Call}
use Rattle.bodies.specs.declared.calls.Call.TheVariants.{Made, Closed}

-- no file
abbrev pub nothing : ℕ → Option (List ℕ)
nothing _ = None

-- its member `may_leave`
abbrev pub memory_may_leave : Memory → List ℕ → Type 0
memory_may_leave file = MayLeave false file.bytes.items file.synced.items (steps_of file.steps.items)

-- the file of a number, and what a crash may leave of it, the newest call last
abbrev pub held_in : List (Call Memory) → ℕ → Option (List ℕ)
held_in calls = held_after memory_bytes nothing (reverse calls)

abbrev pub left_in : List (Call Memory) → ℕ → Option (List ℕ) → Type 0
left_in calls = left_after memory_bytes nothing memory_may_leave (λ _. true) (reverse calls)

-- the number whose file a call makes
abbrev pub named : Call Memory → Option ℕ
named (Made number) = Some number
named (Closed number file) = Some number
named _ = None

-- what a call names is listed, if it has a file
abbrev pub AreListed : List (Call Memory) → Call Memory → List ℕ → Type 0
AreListed calls call numbers =
    (number : ℕ) → named call ≡ Some number → IsSome (held_in calls number) → Contains numbers number

-- a crash may leave anything of this number's file
pub record MayBeAny (calls : List (Call Memory)) (number : ℕ) : Type 0 where
  pub left : (file : Option (List ℕ)) → left_in calls number file
