-- The files that records name are there, or noted of a lost record.
use Rattle.std.proofs.lemmas.Grind.{common_steps}
use Rattle.std.proofs.Common.{◌≡◌, ◌∙◌, ◌⊎◌, inl, inr, ℕ, ◌<◌, ◌≤◌, List, [], ◌∷◌, ◌++◌, map, Option, Some, refl}
use Rattle.std.proofs.Common.{sym, ap, subst, arith, rules}
use Rattle.std.specs.Prelude.{max, IsSome}
use Rattle.std.specs.List.{All, fold}
use Rattle.std.proofs.lemmas.List.Elements.{All-append, All-cons, All-head, All-nil, All-tail, All-weaker}
use Rattle.journal.specs.Format.{Kept}
use Rattle.journal.specs.Machine.{Runs, RunsRecords}
use Rattle.upload_service.specs.declared.ask.Ask.{Ask}
use Rattle.upload_journal.specs.declared.bodies.BodyFault.{BodyFault}
use Rattle.upload_journal.specs.declared.body.BodyFile.{BodyFile}
use Rattle.upload_journal.specs.declared.body.KeptBody.{KeptBody}
use Rattle.upload_journal.specs.declared.body.KeptBody.TheVariants.{Here, InFiles}
use Rattle.upload_journal.specs.declared.entries.KeptAsk.{KeptAsk}
use Rattle.upload_journal.specs.declared.entries.KeptAsk.TheVariants.{Opening, Single, Mount, Chunk, Close}
use Rattle.upload_journal.specs.declared.entries.Entry.{Entry}
use Rattle.upload_journal.specs.declared.entries.Entry.TheVariants.{Exchange as Kept', NumbersUpTo, MomentsUpTo}
use Rattle.upload_journal.specs.Entries.{IsEntry, entry_text, entry_of}
use Rattle.upload_journal.specs.Replay.{Joins, IsBodyOf, IsAskOf, Point, Applies, Replays}
use Rattle.upload_journal.proofs.Texts.{entry_read}
use Rattle.upload_store.specs.Found.{entry_numbers, ask_numbers, body_numbers, numbers_of, read_numbers, texts_of}
use Rattle.upload_store.specs.Runs.{stands_in}
use Rattle.upload_store.specs.Salvage.{Stand, Salvages, ready, one_more, stand_at}

-- ---- each body that was read has a file

module _ (Has : ℕ → Type 0) (held : ℕ → Option (List ℕ)) (has : (n : ℕ) (bytes : List ℕ) → held n ≡ Some bytes → Has n)
  where
    joins_named : (fs : List BodyFile) (bytes : List ℕ) → Joins (stands_in held) fs bytes
        → All Has (map (λ (file : BodyFile). file.number) fs)
    joins_named [] bytes joins = All-nil Has
    joins_named (file ∷ fs) bytes joins =
        All-cons Has file.number (map (λ (file : BodyFile). file.number) fs) (has file.number joins.0 joins.3)
        (joins_named fs joins.1 joins.5)

    body_named : (body : KeptBody) (bytes : List ℕ) → IsBodyOf (stands_in held) body bytes → All Has (body_numbers body)
    body_named (Here body) bytes is = All-nil Has
    body_named (InFiles fs) bytes joins = joins_named fs bytes joins

    ask_named : (kept : KeptAsk) (ask : Ask) → IsAskOf (stands_in held) kept ask → All Has (ask_numbers kept)
    ask_named (Opening name) ask is = All-nil Has
    ask_named (Single name digest body) ask is = body_named body is.0 is.1
    ask_named (Mount name digest source) ask is = All-nil Has
    ask_named (Chunk name at range body) ask is = body_named body is.0 is.1
    ask_named (Close name at range digest body) ask is = body_named body is.0 is.1

    pub applied_named : (old : Point) (e : Entry) (new : Point) → Applies (stands_in held) old e new
        → All Has (entry_numbers e)
    applied_named old (Kept' entry) new a = ask_named entry.ask a.0.ask a.1.ask
    applied_named old (NumbersUpTo n) new a = All-nil Has
    applied_named old (MomentsUpTo m) new a = All-nil Has

    pub replays_named : (old : Point) (es : List Entry) (new : Point) → All IsEntry es
        → Replays (stands_in held) old es new → All (λ text. All Has (numbers_of text)) (map entry_text es)
    replays_named old [] new are r = All-nil (λ text. All Has (numbers_of text))
    replays_named old (e ∷ es) new are r =
        All-cons (λ text. All Has (numbers_of text)) (entry_text e) (map entry_text es)
        (subst (All Has) (sym (ap read_numbers (entry_read e (All-head IsEntry e es are))))
        (applied_named old e r.0 r.1))
        (replays_named r.0 es new (All-tail IsEntry e es are) r.2)

-- ---- the first number above some

past_from : (numbers : List ℕ) (high : ℕ)
    → (high ≤ fold (λ h n. max h (one_more n)) high numbers)
    × All (λ n. one_more n ≤ fold (λ h n. max h (one_more n)) high numbers) numbers
past_from [] high = (omega arith, All-nil (λ n. one_more n ≤ high))
past_from (n ∷ numbers) high = search (rules, arith, All-cons, past_from numbers)

-- ---- one record after the other

module _ (files : ℕ → Option (List ℕ)) (refused : ℕ → BodyFault → Type 0) where
  -- the file is there, or was noted
  abbrev IsKnown : ℕ → ℕ → Type 0
  IsKnown noted n = IsSome (files n) ⊎ (one_more n ≤ noted)

  record Notes (old : Stand) (texts : List (List ℕ)) (new : Stand) : Type 0 where
    pub grows : old.past ≤ new.past
    pub known : All (λ text. All (IsKnown new.past) (numbers_of text)) texts

  notes_none : (it : Stand) → Notes it [] it
  notes_none it = record { grows = omega arith; known = All-nil (λ text. All (IsKnown it.past) (numbers_of text)) }

  known_still : (a b : ℕ) → a ≤ b → (text : List ℕ) → All (IsKnown a) (numbers_of text)
      → All (IsKnown b) (numbers_of text)
  known_still a b le text = search (rules, arith, All-weaker)

  notes_then : (old : Stand) (front : List (List ℕ)) (mid : Stand) (back : List (List ℕ)) (new : Stand)
      → Notes old front mid → Notes mid back new → Notes old (front ++ back) new
  notes_then old front mid back new first second = grind (arith, common_steps, All-append, All-weaker, known_still)

  notes_one : (old : Stand) (time : ℕ) (text : List ℕ) (new : Stand)
      → Salvages (stands_in files) refused old time text new → Notes old (text ∷ []) new
  notes_one old time text new (inl counts) =
      let P : List ℕ → Type 0 = λ t. All (IsKnown new.past) (numbers_of t) in
      let Has : ℕ → Type 0 = IsKnown new.past in
      let read = ap entry_of counts.text_is ∙ entry_read counts.entry counts.is_entry in
      let noted = ap (λ (s : Stand). s.past) counts.is in
      let named : All Has (entry_numbers counts.entry) =
      applied_named Has files (λ n bytes there. inl (subst IsSome (sym there) refl)) (ready old (entry_of text))
      counts.entry new.point counts.applies in
      record {
        grows = omega (arith, noted);
        known = All-cons P text [] (subst (All Has) (sym (ap read_numbers read)) named) (All-nil P);
      }
  notes_one old time text new (inr loses) = search (rules, arith, past_from, All-cons, All-weaker, All-nil)

  notes_records : (time : ℕ) (old : Stand) (texts : List (List ℕ)) (new : Stand)
      → RunsRecords (Salvages (stands_in files) refused) time old texts new → Notes old texts new
  notes_records time old [] new same = subst (λ (s : Stand). Notes old [] s) (sym same) (notes_none old)
  notes_records time old (text ∷ texts) new run =
      notes_then old (text ∷ []) run.0 texts new (notes_one old time text run.0 run.1)
      (notes_records time run.0 texts new run.2)

  notes_batches : (old : Stand) (all : List Kept) (new : Stand)
      → Runs (Salvages (stands_in files) refused) old all new → Notes old (texts_of all) new
  notes_batches old [] new same = subst (λ (s : Stand). Notes old [] s) (sym same) (notes_none old)
  notes_batches old (kept ∷ rest) new run =
      notes_then old kept.1 run.0 (texts_of rest) new (notes_records kept.0 old kept.1 run.0 run.1)
      (notes_batches run.0 rest new run.2)

  -- a number that is above those of all files, and not below what was noted, is above each that a record names
  pub none_named : (old : Point) (all : List Kept) (end : Stand) (next : ℕ)
      → Runs (Salvages (stands_in files) refused) (stand_at old) all end → ((n : ℕ) → IsSome (files n) → n < next)
      → end.past ≤ next → All (λ text. All (λ n. one_more n ≤ next) (numbers_of text)) (texts_of all)
  none_named old all end next run above noted = search (rules, arith, All-weaker, notes_batches)
