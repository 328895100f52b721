-- The numbers that have a file, gathered from the newest call on.
use Rattle.std.proofs.Common.{rules, arith, ◌≡◌, ◌⊎◌, inl, inr, sym, ◌∙◌, ap, ◌<◌, ℕ, List, [], ◌∷◌, ◌++◌, length}
use Rattle.std.proofs.Common.{take, reverse, Some, Contains, suc, IsSome, is_some, get_or, Option}
use Rattle.std.proofs.Math.Seq.{take-suc}
use Rattle.std.proofs.lemmas.List.{reverse-append}
use Rattle.std.proofs.lemmas.List.Elements.{Contains-append_left, Contains-append_right, Contains-append_cases}
use Rattle.sqlite_disk.specs.declared.memory.Memory.{Memory}
use Rattle.sqlite_disk.specs.Memory.{memory_bytes}
use Rattle.bodies.specs.Calls.{held_after}
use Rattle.bodies.specs.MemoryFiles.{held_in, named, nothing, AreListed}
use Rattle.bodies.specs.declared.calls.Call.{Call}
use Rattle.bodies.specs.declared.calls.Call.TheVariants.{Made, Taken, Missing, Closed, Synced, Removed, Read, Whole}
use Rattle.bodies.specs.declared.calls.Call.TheVariants.{Listed, Failed}

-- all that are listed have a file, and all that have one are listed, or have it by the calls that are left
pub record IsListed (calls : List (Call Memory)) (left : ℕ) (numbers : List ℕ) : Type 0 where
  pub sound : (n : ℕ) → Contains numbers n → IsSome (held_in calls n)
  pub complete : (n : ℕ) → IsSome (held_in calls n) → Contains numbers n ⊎ IsSome (held_in (take left calls) n)

abbrev held : List (Call Memory) → ℕ → Option (List ℕ)
held = held_after memory_bytes nothing

-- a file is there by the newest call, which names it, or by those before
older : (call : Call Memory) (earlier : List (Call Memory)) (n : ℕ) → IsSome (held (call ∷ earlier) n)
    → (named call ≡ Some n) ⊎ IsSome (held earlier n)
older (Made number) earlier n h = search rules
older (Taken number) earlier n h = inr h
older (Missing number) earlier n h = inr h
older (Closed number file) earlier n h = search rules
older (Synced number) earlier n h = inr h
older (Removed number) earlier n h = search rules
older (Read number at asked bytes) earlier n h = inr h
older (Whole number bytes) earlier n h = inr h
older (Listed numbers) earlier n h = inr h
older Failed earlier n h = inr h

module _ (calls : List (Call Memory)) (left was_left : ℕ) (call : Call Memory) (at : call ≡ get_or calls left call)
    (low : left < length calls) (next : suc left ≡ was_left) where
  back : reverse (take was_left calls) ≡ call ∷ reverse (take left calls)
  back =
      let cut = take-suc calls left call low in
      ap (λ n. reverse (take n calls)) (sym next) ∙ ap reverse cut ∙ reverse-append (take left calls) _
      ∙ ap (λ c. c ∷ reverse (take left calls)) (sym at)

  before : (n : ℕ) → IsSome (held_in (take was_left calls) n)
      → (named call ≡ Some n) ⊎ IsSome (held_in (take left calls) n)
  before n h = older call (reverse (take left calls)) n (sym (ap (λ cs. is_some (held cs n)) back) ∙ h)

  module _ (numbers : List ℕ) where
    one : AreListed calls call numbers → (n : ℕ) → IsSome (held_in calls n)
        → (named call ≡ Some n) ⊎ IsSome (held_in (take left calls) n)
        → Contains numbers n ⊎ IsSome (held_in (take left calls) n)
    one none n h (inl is) = inl (none n is h)
    one none n h (inr there) = inr there

    still : AreListed calls call numbers → (n : ℕ) → IsSome (held_in calls n)
        → Contains numbers n ⊎ IsSome (held_in (take was_left calls) n)
        → Contains numbers n ⊎ IsSome (held_in (take left calls) n)
    still none n h (inl listed) = inl listed
    still none n h (inr there) = one none n h (before n there)

    pub kept : IsListed calls was_left numbers → AreListed calls call numbers → IsListed calls left numbers
    kept was none = record { sound = was.sound; complete = λ n h. still none n h (was.complete n h) }

  module _ (numbers : List ℕ) (m : ℕ) (there : IsSome (held_in calls m)) (was : IsListed calls was_left numbers) where
    from : (n : ℕ) → Contains numbers n ⊎ Contains (m ∷ []) n → IsSome (held_in calls n)
    from n (inl listed) = was.sound n listed
    from n (inr last) = search (rules, arith, there, last)

    more : (n : ℕ) → Contains numbers n ⊎ IsSome (held_in (take was_left calls) n)
        → Contains (numbers ++ m ∷ []) n ⊎ IsSome (held_in (take was_left calls) n)
    more n (inl listed) = inl (Contains-append_left numbers (m ∷ []) n listed)
    more n (inr h) = inr h

    wider : IsListed calls was_left (numbers ++ m ∷ [])
    wider =
        record {
          sound = λ n among. from n (Contains-append_cases numbers (m ∷ []) n among);
          complete = λ n h. more n (was.complete n h);
        }

    pub added : named call ≡ Some m → IsListed calls left (numbers ++ m ∷ [])
    added is =
        kept (numbers ++ m ∷ []) wider
        (λ n same h. search (rules, arith, Contains-append_right numbers (m ∷ []) m, is, same))
