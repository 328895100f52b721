-- What a piece of a batch stands for.
use Rattle.std.proofs.Common.{◌≡◌, ℕ, ◌+◌, ◌≤◌, List, [], ◌∷◌, ◌++◌, length, take, drop, Some, None, rules}
use Rattle.std.proofs.Common.{refl, sym, ◌∙◌, ap, subst, arith, append_assoc, length-append, length-drop}
use Rattle.std.proofs.lemmas.List.{take-append-le, drop-append-le, drop-drop, take-append-drop, append-nil}
use Rattle.journal.specs.Format.{records, first}
use Rattle.journal.specs.Machine.{RunsRecords}
use Rattle.journal.specs.Reads.{Finds, IsFirst, RunsPast, RunsTo}
use Rattle.journal.proofs.Reading.{first_found, records_some, records_none}

-- what follows it doesn't matter
first_more : (p q : List ℕ) (found : List ℕ × List ℕ) → IsFirst p found → first (p ++ q) ≡ Some (found.0, found.1 ++ q)
first_more p q found it =
    search (rules, arith, take-append-le, drop-append-le, length-drop, first_found, length-append)

pub records_on : (p q : List ℕ) (found : List ℕ × List ℕ) → IsFirst p found → records (p ++ q) ≡ found.0 ∷ records
    (found.1 ++ q)
records_on p q found is = records_some (p ++ q) (found.0, found.1 ++ q) (first_more p q found is)

-- what is left of bytes behind one more record
pub left_of : (bytes rest : List ℕ) (found : List ℕ × List ℕ) → IsFirst rest found
    → ((n : ℕ) × (rest ≡ drop n bytes) × (n ≤ length bytes)) → (n : ℕ) × (found.1 ≡ drop n bytes) × (n ≤ length bytes)
left_of bytes rest found it passed = search (rules, arith, drop-drop, length-drop)

-- a piece, and what a run over it leaves of the batch
pub past_piece : {M : Type 0} (steps : M → ℕ → List ℕ → M → Type 0) (time : ℕ) (old new : M) (file piece : List ℕ)
    (at size n : ℕ) → take size (drop at file) ≡ piece → n ≤ length piece → RunsPast steps time old piece n new
    → RunsTo steps time old file at (at + n) new
past_piece steps time old new file piece at size n is within run =
    let region = drop at file in
    let split : piece ++ drop size region ≡ region =
    ap (λ (l : List ℕ). l ++ drop size region) (sym is) ∙ take-append-drop size region in (
      run.0,
      run.1,
      ap records (sym split) ∙ run.2 (drop size region)
          ∙ ap (λ (l : List ℕ). run.0 ++ records l)
          (sym (drop-append-le n piece (drop size region) within) ∙ ap (drop n) split ∙ drop-drop n at file),
    )

-- one run after another
records_and : {M : Type 0} (steps : M → ℕ → List ℕ → M → Type 0) (time : ℕ) (old mid new : M)
    (one two : List (List ℕ)) → RunsRecords steps time old one mid → RunsRecords steps time mid two new
    → RunsRecords steps time old (one ++ two) new
records_and steps time old mid new [] two run more = subst (λ m. RunsRecords steps time m two new) run more
records_and steps time old mid new (r ∷ one) two run more =
    search (rules, arith, records_and steps time run.0 mid new one two run.2 more)

module _ {M : Type 0} (steps : M → ℕ → List ℕ → M → Type 0) (time : ℕ) (old : M) (file : List ℕ) (start : ℕ) where
  pub to_more : (mid new : M) (at next : ℕ) → RunsTo steps time old file start at mid
      → RunsTo steps time mid file at next new → RunsTo steps time old file start next new
  to_more mid new at next run more = search (rules, arith, records_and, append_assoc)

  pub to_record : (mid new : M) (at next : ℕ) (bytes : List ℕ) → RunsTo steps time old file start at mid
      → Finds file at bytes (Some next) → steps mid time bytes new → RunsTo steps time old file start next new
  to_record mid new at next bytes run found step =
      to_more mid new at next run
      (bytes ∷ [], (new, step, refl), records_some (drop at file) (bytes, drop next file) found)

  pub to_end : (new : M) (at : ℕ) (bytes : List ℕ) → RunsTo steps time old file start at new → Finds file at bytes None
      → RunsRecords steps time old (records (drop start file)) new
  to_end new at bytes run none = search (rules, arith, records_none, append-nil)
