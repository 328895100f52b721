-- A crash may leave what is there.
use Rattle.std.proofs.Common.{rules, refl, true, ℕ, List, [], ◌∷◌, reverse}
use Rattle.sqlite_disk.specs.declared.memory.Memory.{Memory}
use Rattle.sqlite_disk.specs.Memory.{memory_bytes}
use Rattle.bodies.specs.Calls.{held_after, left_after}
use Rattle.bodies.specs.MemoryFiles.{held_in, left_in, nothing, memory_may_leave}
use Rattle.bodies.specs.declared.calls.Call.{Call}
use Rattle.bodies.specs.declared.calls.Call.TheVariants.{Made, Taken, Missing, Closed, Synced, Removed, Read, Whole}
use Rattle.bodies.specs.declared.calls.Call.TheVariants.{Listed, Failed}

after : (calls : List (Call Memory)) (n : ℕ)
    → left_after memory_bytes nothing memory_may_leave (λ _. true) calls n (held_after memory_bytes nothing calls n)
after [] n = λ _. refl
after (Made number ∷ earlier) n = search (rules, after earlier n)
after (Taken number ∷ earlier) n = after earlier n
after (Missing number ∷ earlier) n = after earlier n
after (Closed number file ∷ earlier) n = search (rules, after earlier n)
after (Synced number ∷ earlier) n = (after earlier n, λ _ there. there)
after (Removed number ∷ earlier) n = search (rules, after earlier n)
after (Read number at asked bytes ∷ earlier) n = after earlier n
after (Whole number bytes ∷ earlier) n = after earlier n
after (Listed numbers ∷ earlier) n = after earlier n
after (Failed ∷ earlier) n = after earlier n

pub stays : (calls : List (Call Memory)) (n : ℕ) → left_in calls n (held_in calls n)
stays calls n = after (reverse calls) n
