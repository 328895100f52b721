-- What a crash leaves of a store, by what its records hold.
use Rattle.std.proofs.Common.{◌≡◌, ◌⊎◌, ◌∙◌, inl, inr, ℕ, ◌≤◌, max, List, [], ◌∷◌, ◌++◌, map, Option, refl, sym, ap}
use Rattle.std.proofs.Common.{subst, IsTrue}
use Rattle.std.proofs.Common.{arith, append-nil, rules}
use Rattle.std.specs.List.{All, flat_map}
use Rattle.std.proofs.lemmas.List.{map-append}
use Rattle.std.proofs.lemmas.List.Concat.{flat_map-append}
use Rattle.std.proofs.lemmas.List.Elements.{All-cons, All-nil, All-head, All-tail}
use Rattle.sqlite_disk.specs.declared.Disk.{Ghosts}
use Rattle.bodies.specs.declared.shelf.Shelf as shelves
use Rattle.journal.specs.Format.{Kept, stored}
use Rattle.upload_service.specs.Run.{Exchange}
use Rattle.upload_service.specs.declared.ask.Ask.{Ask}
use Rattle.upload_journal.specs.declared.body.BodyFile.{BodyFile}
use Rattle.upload_journal.specs.declared.body.KeptBody.{KeptBody}
use Rattle.upload_journal.specs.declared.body.KeptBody.TheVariants.{Here, InFiles}
use Rattle.upload_journal.specs.declared.entries.KeptAsk.{KeptAsk}
use Rattle.upload_journal.specs.declared.entries.KeptAsk.TheVariants.{Opening, Single, Mount, Chunk, Close}
use Rattle.upload_journal.specs.declared.entries.Entry.{Entry}
use Rattle.upload_journal.specs.declared.entries.Entry.TheVariants.{Exchange as Kept', NumbersUpTo, MomentsUpTo}
use Rattle.upload_journal.specs.Entries.{IsEntry, entry_text}
use Rattle.upload_journal.specs.Replay.{StandFor, IsAskOf, IsBodyOf, Joins}
use Rattle.upload_journal.proofs.Texts.{entry_read}
use Rattle.upload_store.specs.Found.{Found, found_in, batch_in, found, texts_of, numbers_of, entry_numbers, ask_numbers}
use Rattle.upload_store.specs.Found.{body_numbers, read_numbers}
use Rattle.upload_store.specs.Runs.{stands_in}
use Rattle.upload_store.specs.Safe.{IsSafe, HasSafe, AreSafe}
use Rattle.upload_store.specs.Store.{IsClean, IsWhole, MayLeave, kept_of, shelf_of, entries_of, is_open}
use Rattle.upload_store.specs.declared.store.Store.{Store}
use Rattle.upload_keeping.specs.Keeping.{Holds, Leaves, Settled, Goes}
use Rattle.upload_keeping.proofs.Holding.{holds_then, holds_still, lower}

-- ---- what records hold is safe

module _ {S : Type 0} (held : S → ℕ → Option (List ℕ)) (may_leave : S → ℕ → Option (List ℕ) → Type 0) (shelf : S) where
  abbrev Safe : ℕ → List ℕ → Type 0
  Safe = IsSafe held may_leave shelf

  abbrev Has : ℕ → Type 0
  Has = HasSafe held may_leave shelf

  files_safe : (files : List BodyFile) (bytes : List ℕ) → Joins Safe files bytes
      → All Has (map (λ (file : BodyFile). file.number) files)
  files_safe [] bytes joins = All-nil Has
  files_safe (file ∷ files) bytes joins = search (rules, arith, All-cons, files_safe files joins.1 joins.5)

  body_safe : (body : KeptBody) (bytes : List ℕ) → IsBodyOf Safe body bytes → All Has (body_numbers body)
  body_safe (Here body) bytes is = All-nil Has
  body_safe (InFiles files) bytes joins = files_safe files bytes joins

  ask_safe : (kept : KeptAsk) (ask : Ask) → IsAskOf Safe kept ask → All Has (ask_numbers kept)
  ask_safe (Opening name) ask is = All-nil Has
  ask_safe (Single name digest body) ask is = body_safe body is.0 is.1
  ask_safe (Mount name digest source) ask is = All-nil Has
  ask_safe (Chunk name at range body) ask is = body_safe body is.0 is.1
  ask_safe (Close name at range digest body) ask is = body_safe body is.0 is.1

  abbrev IsSafeText : List ℕ → Type 0
  IsSafeText text = All Has (numbers_of text)

  text_safe : (e : Entry) → IsEntry e → All Has (entry_numbers e) → IsSafeText (entry_text e)
  text_safe e is safe = subst (All Has) (sym (ap read_numbers (entry_read e is))) safe

  texts_safe : (es : List Entry) (xs : List Exchange) → All IsEntry es → StandFor Safe es xs
      → AreSafe held may_leave shelf (map entry_text es)
  texts_safe [] xs are stand = All-nil IsSafeText
  texts_safe (Kept' e ∷ es) [] are stand = absurd stand
  texts_safe (Kept' e ∷ es) (x ∷ xs) are stand =
      All-cons IsSafeText (entry_text (Kept' e)) (map entry_text es)
      (text_safe (Kept' e) (All-head IsEntry (Kept' e) es are) (ask_safe e.ask x.ask stand.0.ask))
      (texts_safe es xs (All-tail IsEntry (Kept' e) es are) stand.1)
  texts_safe (NumbersUpTo n ∷ es) xs are stand = absurd stand
  texts_safe (MomentsUpTo m ∷ es) xs are stand =
      All-cons IsSafeText (entry_text (MomentsUpTo m)) (map entry_text es)
      (text_safe (MomentsUpTo m) (All-head IsEntry (MomentsUpTo m) es are) (All-nil Has))
      (texts_safe es xs (All-tail IsEntry (MomentsUpTo m) es are) stand)

  pub batch_safe : (xs : List Exchange) (m : ℕ) (texts : List (List ℕ)) → Holds Safe [] 0 xs m texts
      → AreSafe held may_leave shelf texts
  batch_safe xs m texts is =
      subst (AreSafe held may_leave shelf) (sym is.texts_are) (texts_safe is.entries xs is.are_entries is.stand_for)

-- ---- the texts of what was found

texts_in : List (ℕ × List Found) → List (List ℕ)
texts_in all = flat_map (λ (b : ℕ × List Found). map (λ (f : Found). f.text) b.1) all

record_texts : (files : ℕ → Option (List ℕ)) (texts : List (List ℕ))
    → map (λ (f : Found). f.text) (map (found_in files) texts) ≡ texts
record_texts files [] = refl
record_texts files (text ∷ texts) = ap (λ (l : List (List ℕ)). text ∷ l) (record_texts files texts)

found_texts : (files : ℕ → Option (List ℕ)) (all : List Kept) → texts_in (found all files) ≡ texts_of all
unfolding texts_in
found_texts files [] = refl
found_texts files (kept ∷ rest) = λ i. record_texts files kept.1 i ++ found_texts files rest i

pub same_texts : (a b : List Kept) (files held : ℕ → Option (List ℕ)) → found a files ≡ found b held
    → texts_of a ≡ texts_of b
same_texts a b files held same = sym (found_texts files a) ∙ ap texts_in same ∙ found_texts held b

pub texts_added : (all : List Kept) (kept : Kept) → texts_of (all ++ kept ∷ []) ≡ texts_of all ++ kept.1
texts_added all kept = simp (flat_map-append, append-nil)

pub more_texts : (a b : List Kept) (kept : Kept) (files held : ℕ → Option (List ℕ))
    → found a files ≡ found b held ++ batch_in held kept ∷ [] → texts_of a ≡ texts_of b ++ kept.1
more_texts a b kept files held same =
    same_texts a (b ++ kept ∷ []) files held (same ∙ sym (map-append (batch_in held) b (kept ∷ [])))
    ∙ texts_added b kept

-- ---- crashes

module _ {D S F : Type 0} {g : Ghosts D} {s : shelves.Ghosts S F} {f : Ghosts F} where
  left_as : (opened store : Store D S F g s f) (since : ℕ) (xs : List Exchange) (upto : ℕ) (texts : List (List ℕ))
      (file : List ℕ) (files : ℕ → Option (List ℕ)) → Goes opened store → IsClean store
      → Holds (IsSafe s.held s.may_leave (shelf_of store)) (texts_of (kept_of opened)) since xs upto texts
      → texts_of (stored file) ≡ texts → MayLeave store file files → Leaves opened since xs upto file files
  left_as opened store since xs upto texts file files goes clean holds same may = record {
    holds =
        subst (λ (l : List (List ℕ)). Holds (stands_in files) (texts_of (kept_of opened)) since xs upto l) (sym same)
        (holds_still (IsSafe s.held s.may_leave (shelf_of store)) (stands_in files)
        (λ n bytes safe. safe.stored (files n) (may.bodies n)) (texts_of (kept_of opened)) since xs upto texts holds);
    bodies = λ n bytes safe. (goes.safe clean n bytes safe).stored (files n) (may.bodies n);
  }

  -- a store that kept all leaves just what is kept
  pub kept_left : (opened store : Store D S F g s f) (since : ℕ) (kept : List Exchange) (upto : ℕ) (file : List ℕ)
      (files : ℕ → Option (List ℕ)) → Goes opened store → Settled opened since kept upto store → IsClean store
      → found (stored file) files ≡ entries_of store → MayLeave store file files
      → Leaves opened since kept upto file files
  kept_left opened store since kept upto file files goes settled clean same may =
      left_as opened store since kept upto (texts_of (kept_of store)) file files goes clean (settled.holds clean)
      (same_texts (stored file) (kept_of store) files (s.held (shelf_of store)) same) may

  -- and so does what became of it without a change
  pub same_left : (opened old new : Store D S F g s f) (since : ℕ) (kept : List Exchange) (upto : ℕ)
      → Goes opened old → Settled opened since kept upto old → Goes old new → shelf_of new ≡ shelf_of old
      → (file : List ℕ) (files : ℕ → Option (List ℕ)) → IsClean new → MayLeave new file files
      → found (stored file) files ≡ entries_of old → Leaves opened since kept upto file files
  same_left opened old new since kept upto goes settled on same file files clean may left =
      left_as opened new since kept upto (texts_of (kept_of old)) file files
      (record {
        safe = λ c n bytes safe. on.safe c n bytes (goes.safe (on.clean c) n bytes safe);
        clean = λ c. goes.clean (on.clean c);
      })
      clean
      (subst (λ (x : S). Holds (IsSafe s.held s.may_leave x) (texts_of (kept_of opened)) since kept upto
      (texts_of (kept_of old))) (sym same) (settled.holds (on.clean clean)))
      (same_texts (stored file) (kept_of old) files (s.held (shelf_of old)) left) may

  module _ (opened old new : Store D S F g s f) (since : ℕ) (kept waiting : List Exchange) (upto more time : ℕ)
      (texts : List (List ℕ)) (goes : Goes opened old) (settled : Settled opened since kept upto old)
      (awaits : IsClean old → Holds (IsSafe s.held s.may_leave (shelf_of old)) [] 0 waiting more texts)
      (was : IsClean new → IsClean old) (same : shelf_of new ≡ shelf_of old) where
    abbrev added : Kept
    added = (time, texts)

    abbrev Both : S → ℕ → Type 0
    Both shelf m =
        Holds (IsSafe s.held s.may_leave shelf) (texts_of (kept_of opened)) since (kept ++ waiting) m
        (texts_of (kept_of old) ++ texts)

    both : IsClean old → Both (shelf_of old) (max upto more)
    both clean = grind (arith, holds_then)

    pub all_safe : IsClean old → AreSafe s.held s.may_leave (shelf_of old) texts
    all_safe clean = batch_safe s.held s.may_leave (shelf_of old) waiting more texts (awaits clean)

    pub goes_on : Goes opened new
    goes_on = record {
      safe = λ clean n bytes safe.
          subst (λ (x : S). IsSafe s.held s.may_leave x n bytes) (sym same) (goes.safe (was clean) n bytes safe);
      clean = λ clean. goes.clean (was clean);
    }

    -- what is left of an append that failed
    pub tried_left : (file : List ℕ) (files : ℕ → Option (List ℕ)) → IsClean new → MayLeave new file files
        → (found (stored file) files ≡ entries_of old)
        ⊎ (found (stored file) files ≡ entries_of old ++ batch_in (s.held (shelf_of old)) added ∷ [])
        → Leaves opened since kept upto file files ⊎ Leaves opened since (kept ++ waiting) upto file files
    tried_left file files clean may (inl e) =
        inl
        (left_as opened new since kept upto (texts_of (kept_of old)) file files goes_on clean
        (subst (λ (x : S). Holds (IsSafe s.held s.may_leave x) (texts_of (kept_of opened)) since kept upto
        (texts_of (kept_of old))) (sym same) (settled.holds (was clean)))
        (same_texts (stored file) (kept_of old) files (s.held (shelf_of old)) e) may)
    tried_left file files clean may (inr e) =
        inr
        (left_as opened new since (kept ++ waiting) upto (texts_of (kept_of old) ++ texts) file files goes_on clean
        (lower (IsSafe s.held s.may_leave (shelf_of new)) (texts_of (kept_of opened)) since (kept ++ waiting)
        (max upto more) upto (texts_of (kept_of old) ++ texts) (omega arith)
        (subst (λ (x : S). Both x (max upto more)) (sym same) (both (was clean))))
        (more_texts (stored file) (kept_of old) added files (s.held (shelf_of old)) e) may)

    -- and of one that didn't
    pub settled_on : (next : ℕ) → next ≤ max upto more → IsTrue (is_open new)
        → (IsWhole old → AreSafe s.held s.may_leave (shelf_of old) texts → IsWhole new)
        → (IsClean new → kept_of new ≡ kept_of old ++ added ∷ []) → Settled opened since (kept ++ waiting) next new
    settled_on next le stays whole grown = record {
      stays_open = stays;
      whole = λ was_whole clean. whole (settled.whole was_whole) (all_safe (was clean)) clean;
      holds = λ clean.
          subst (λ (l : List (List ℕ)). Holds (IsSafe s.held s.may_leave (shelf_of new)) (texts_of (kept_of opened))
          since
          (kept ++ waiting) next l) (sym (ap texts_of (grown clean) ∙ texts_added (kept_of old) added))
          (lower (IsSafe s.held s.may_leave (shelf_of new)) (texts_of (kept_of opened)) since (kept ++ waiting)
          (max upto more) next (texts_of (kept_of old) ++ texts) le
          (subst (λ (x : S). Both x (max upto more)) (sym same) (both (was clean))));
    }
