-- What records stand for, by what files have at the numbers that they name.
use Rattle.std.proofs.Common.{◌≡◌, ℕ, List, [], ◌∷◌, ◌++◌, map, Option, refl, sym, subst, arith, rules}
use Rattle.std.specs.List.{All}
use Rattle.std.proofs.lemmas.List.{append-nil, map-append}
use Rattle.std.proofs.lemmas.List.Concat.{flat_map-append}
use Rattle.std.proofs.lemmas.List.Elements.{All-head, All-tail, All-append, All-weaker, All-cons, All-nil}
use Rattle.journal.specs.Format.{Kept}
use Rattle.upload_store.specs.Found.{numbers_of, found_in, batch_in, found, texts_of}
use Rattle.upload_store.specs.Safe.{IsSafe, HasSafe, AreSafe}

-- the files agree at each number that the records name
abbrev pub Agree : (a b : ℕ → Option (List ℕ)) → List (List ℕ) → Type 0
Agree a b texts = All (λ text. All (λ n. a n ≡ b n) (numbers_of text)) texts

module _ {X : Type 0} (P : X → Type 0) where
  pub All-front : (xs ys : List X) → All P (xs ++ ys) → All P xs
  All-front [] ys h = All-nil P
  All-front (x ∷ xs) ys h =
      search (rules, arith, All-cons, All-head, All-tail, All-front xs ys (All-tail P x (xs ++ ys) h))

  pub All-behind : (xs ys : List X) → All P (xs ++ ys) → All P ys
  All-behind [] ys h = h
  All-behind (x ∷ xs) ys h = All-behind xs ys (All-tail P x (xs ++ ys) h)

module _ (a b : ℕ → Option (List ℕ)) where
  same_files : (numbers : List ℕ) → All (λ n. a n ≡ b n) numbers → map a numbers ≡ map b numbers
  same_files [] h = refl
  same_files (n ∷ ns) h = search (rules, arith, All-head, All-tail, same_files ns)

  same_texts : (texts : List (List ℕ)) → Agree a b texts → map (found_in a) texts ≡ map (found_in b) texts
  same_texts [] h = refl
  same_texts (text ∷ texts) h =
      let P : List ℕ → Type 0 = λ text. All (λ n. a n ≡ b n) (numbers_of text) in
      let first = same_files (numbers_of text) (All-head P text texts h) in
      let rest = same_texts texts (All-tail P text texts h) in
      λ i. record { text = text; bodies = first i } ∷ rest i

  pub same_found : (all : List Kept) → Agree a b (texts_of all) → found all a ≡ found all b
  same_found [] h = refl
  same_found (kept ∷ rest) h =
      let P : List ℕ → Type 0 = λ text. All (λ n. a n ≡ b n) (numbers_of text) in
      let first = same_texts kept.1 (All-front P kept.1 (texts_of rest) h) in
      let others = same_found rest (All-behind P kept.1 (texts_of rest) h) in
      λ i. (kept.0, first i) ∷ others i

-- one batch more
pub texts_added : (all : List Kept) (kept : Kept) → texts_of (all ++ kept ∷ []) ≡ texts_of all ++ kept.1
texts_added all kept = simp (flat_map-append, append-nil)

pub found_added : (files : ℕ → Option (List ℕ)) (all : List Kept) (kept : Kept)
    → found (all ++ kept ∷ []) files ≡ found all files ++ batch_in files kept ∷ []
found_added files all kept = map-append (batch_in files) all (kept ∷ [])

module _ {S : Type 0} (held : S → ℕ → Option (List ℕ)) (may_leave : S → ℕ → Option (List ℕ) → Type 0) where
  pub safe_still : (old new : S) → ((n : ℕ) (bytes : List ℕ) → IsSafe held may_leave old n bytes
      → IsSafe held may_leave new n bytes)
      → (texts : List (List ℕ)) → AreSafe held may_leave old texts → AreSafe held may_leave new texts
  safe_still old new still texts safe =
      let P : List ℕ → Type 0 = λ text. All (HasSafe held may_leave old) (numbers_of text) in
      let Q : List ℕ → Type 0 = λ text. All (HasSafe held may_leave new) (numbers_of text) in
      All-weaker P Q
      (λ text here. All-weaker (HasSafe held may_leave old) (HasSafe held may_leave new)
      (λ n h. (h.0, still n h.0 h.1)) (numbers_of text) here)
      texts safe

  pub safe_added : (shelf : S) (all : List Kept) (kept : Kept) → AreSafe held may_leave shelf (texts_of all)
      → AreSafe held may_leave shelf kept.1 → AreSafe held may_leave shelf (texts_of (all ++ kept ∷ []))
  safe_added shelf all kept safe here =
      let P : List ℕ → Type 0 = λ text. All (HasSafe held may_leave shelf) (numbers_of text) in
      subst (All P) (sym (texts_added all kept)) (All-append P (texts_of all) kept.1 safe here)
