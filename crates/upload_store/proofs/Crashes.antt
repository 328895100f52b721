-- What crashes leave of batches and of the bodies that they name.
use Rattle.std.proofs.Common.{◌≡◌, ◌⊎◌, ◌∙◌, inl, inr, ℕ, ◌+◌, List, [], ◌∷◌, ◌++◌, Option, sym, ap, rules}
use Rattle.std.proofs.Common.{subst, None}
use Rattle.std.proofs.Common.{arith, length}
use Rattle.std.specs.List.{All}
use Rattle.std.proofs.lemmas.Bool.Decides.{eqb_tells}
use Rattle.std.proofs.lemmas.List.Elements.{All-weaker}
use Rattle.journal.specs.Format.{Kept}
use Rattle.bodies.specs.Shelf.{Keeps, KeepsOthers}
use Rattle.upload_store.specs.Found.{numbers_of, batch_in, found, texts_of}
use Rattle.upload_store.specs.Reading.{ReadsOnly}
use Rattle.upload_store.specs.Safe.{IsSafe, HasSafe, AreSafe, AreWritten}
use Rattle.upload_store.proofs.Same.{Agree, same_found, found_added, safe_added}

module _ {S : Type 0} (held : S → ℕ → Option (List ℕ)) (may_leave : S → ℕ → Option (List ℕ) → Type 0) where
  -- ---- what is safe, stays safe

  pub keeps_safe : (old new : S) (n : ℕ) (bytes : List ℕ) → Keeps held may_leave old new n
      → IsSafe held may_leave old n bytes → IsSafe held may_leave new n bytes
  keeps_safe old new n bytes keeps safe = search (rules, arith)

  pub others_then : (old mid new : S) (number : ℕ) → KeepsOthers held may_leave old mid number
      → KeepsOthers held may_leave mid new number → KeepsOthers held may_leave old new number
  others_then old mid new number first second = record {
    each = λ n apart.
        let a = first.each n apart in
        let b = second.each n apart in
        record { same = b.same ∙ a.same; left = λ file may. a.left file (b.left file may) };
  }

  abbrev pub Still : S → S → Type 0
  Still old new = (n : ℕ) (bytes : List ℕ) → IsSafe held may_leave old n bytes → IsSafe held may_leave new n bytes

  -- a number that had no file takes nothing that is safe
  pub others_still : (old new : S) (number : ℕ) → KeepsOthers held may_leave old new number → held old number ≡ None
      → Still old new
  others_still old new number others none n bytes safe = search (rules, arith, keeps_safe)

  -- nor does one that had a file and has it still
  pub either_still : (old new : S) (number : ℕ) → KeepsOthers held may_leave old new number
      → Keeps held may_leave old new number ⊎ (held old number ≡ None) → Still old new
  either_still old new number others (inl same) n bytes safe = search (rules, arith, eqb_tells, keeps_safe)
  either_still old new number others (inr none) n bytes safe = others_still old new number others none n bytes safe

  pub reads_still : (IsClean : S → Type 0) (old new : S) → ReadsOnly held may_leave IsClean old new → Still old new
  reads_still IsClean old new reads n bytes safe = keeps_safe old new n bytes (reads.all.each n) safe

  -- it stays so over a crash
  pub crash_still : (old new : S) → ((n : ℕ) → may_leave old n (held new n))
      → ((n : ℕ) (left : Option (List ℕ)) → may_leave new n left → may_leave old n left) → Still old new
  crash_still old new left no_more n bytes safe = search (rules, arith)

  -- ---- bodies behind one another

  pub written_still : (old new : S) → Still old new → (first : ℕ) (bodies : List (List ℕ))
      → AreWritten held may_leave old first bodies → AreWritten held may_leave new first bodies
  written_still old new still first [] written = tt
  written_still old new still first (body ∷ bodies) written =
      search (rules, arith, written_still old new still (first + 1) bodies written.1)

  pub written_append : (shelf : S) (first : ℕ) (front back : List (List ℕ))
      → AreWritten held may_leave shelf first front → AreWritten held may_leave shelf (first + length front) back
      → AreWritten held may_leave shelf first (front ++ back)
  written_append shelf first [] back front behind = search (rules, arith)
  written_append shelf first (body ∷ bodies) back front behind =
      search (rules, arith, written_append shelf (first + 1) bodies back front.1)

  -- ---- after a crash

  agree_across : (old new : S) → Still old new → (left : ℕ → Option (List ℕ)) → ((n : ℕ) → may_leave new n (left n))
      → (texts : List (List ℕ)) → AreSafe held may_leave old texts → Agree left (held old) texts
  agree_across old new still left may texts safe =
      let P : List ℕ → Type 0 = λ text. All (HasSafe held may_leave old) (numbers_of text) in
      let Q : List ℕ → Type 0 = λ text. All (λ n. left n ≡ held old n) (numbers_of text) in
      All-weaker P Q
      (λ text here. All-weaker (HasSafe held may_leave old) (λ n. left n ≡ held old n)
      (λ n h. (still n h.0 h.1).stored (left n) (may n) ∙ sym h.1.there) (numbers_of text) here)
      texts safe

  pub crash_same : (old new : S) → Still old new → (all : List Kept) → AreSafe held may_leave old (texts_of all)
      → (files : ℕ → Option (List ℕ)) → ((n : ℕ) → may_leave new n (files n)) → (left : List Kept) → left ≡ all
      → found left files ≡ found all (held old)
  crash_same old new still all safe files may left same =
      ap (λ l. found l files) same ∙ same_found files (held old) all
      (agree_across old new still files may (texts_of all) safe)

  module _ (shelf : S) (all : List Kept) (kept : Kept) (safe : AreSafe held may_leave shelf (texts_of all))
      (here : AreSafe held may_leave shelf kept.1) where
    both : AreSafe held may_leave shelf (texts_of (all ++ kept ∷ []))
    both = safe_added held may_leave shelf all kept safe here

    pub crash_either : (files : ℕ → Option (List ℕ)) → ((n : ℕ) → may_leave shelf n (files n)) → (left : List Kept)
        → (left ≡ all) ⊎ (left ≡ all ++ kept ∷ [])
        → (found left files ≡ found all (held shelf))
        ⊎ (found left files ≡ found all (held shelf) ++ batch_in (held shelf) kept ∷ [])
    crash_either files may left (inl old) = inl (crash_same shelf shelf (λ n bytes h. h) all safe files may left old)
    crash_either files may left (inr new) =
        inr
        (crash_same shelf shelf (λ n bytes h. h) (all ++ kept ∷ []) both files may left new
        ∙ found_added (held shelf) all kept)

    pub safe_either : (left : List Kept) → (left ≡ all) ⊎ (left ≡ all ++ kept ∷ [])
        → AreSafe held may_leave shelf (texts_of left)
    safe_either left (inl old) = subst (λ l. AreSafe held may_leave shelf (texts_of l)) (sym old) safe
    safe_either left (inr new) = subst (λ l. AreSafe held may_leave shelf (texts_of l)) (sym new) both
