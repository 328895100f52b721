-- The numbers that records name are issued, or noted of a lost record.
use Rattle.std.proofs.lemmas.Grind.{common_steps}
use Rattle.std.proofs.Common.{◌≡◌, ◌∙◌, ◌⊎◌, inl, inr, ℕ, ◌+◌, ◌≤◌, List, [], ◌∷◌, ◌++◌, Option, Some, rules}
use Rattle.std.proofs.Common.{None, refl}
use Rattle.std.proofs.Common.{sym, ap, subst, arith, Bool, true, false, cond, Result}
use Rattle.std.specs.Prelude.{min, max, ◌||◌, nat_le}
use Rattle.std.specs.Option.{option_map}
use Rattle.std.specs.List.{All}
use Rattle.std.proofs.lemmas.Bool.{leb-false}
use Rattle.std.proofs.lemmas.List.Elements.{All-append, All-cons, All-nil, All-weaker}
use Rattle.journal.specs.Format.{Kept}
use Rattle.journal.specs.Machine.{Runs, RunsRecords}
use Rattle.upload_names.specs.Digest.{Digest}
use Rattle.upload_names.specs.Reference.{reference, number_of}
use Rattle.upload_names.proofs.ReferenceFacts.{number_of-reference}
use Rattle.upload_service.specs.declared.ask.Ask.{Ask}
use Rattle.upload_service.specs.declared.ask.Ask.TheVariants as asks
use Rattle.upload_service.specs.declared.answer.Answer.{Answer}
use Rattle.upload_service.specs.declared.answer.Answer.TheVariants as answers
use Rattle.upload_service.specs.declared.answer.Refusal.TheVariants as refusals
use Rattle.upload_service.specs.Machine.{State, Session, Outcome, Replies, Begins, Turn, IsLawful, answer_of}
use Rattle.upload_service.specs.Machine.{outcome, effect}
use Rattle.upload_service.specs.Machine.{SessionChange, issued_with}
use Rattle.upload_service.specs.Machine.{at_session, unless_idle, last_number}
use Rattle.upload_service.specs.UploadView.{Act}
use Rattle.upload_service.proofs.Lawful.{lawful_turn}
use Rattle.upload_journal.specs.declared.entries.KeptAnswer.{KeptAnswer}
use Rattle.upload_journal.specs.declared.entries.KeptAnswer.TheVariants.{Begun, Taken, Stored}
use Rattle.upload_journal.specs.declared.entries.KeptAsk.{KeptAsk}
use Rattle.upload_journal.specs.declared.entries.Entry.{Entry}
use Rattle.upload_journal.specs.declared.entries.Entry.TheVariants.{Exchange as Kept', NumbersUpTo, MomentsUpTo}
use Rattle.upload_journal.specs.declared.fault.EntryFault.{EntryFault}
use Rattle.upload_journal.specs.declared.bodies.BodyFault.{BodyFault}
use Rattle.upload_journal.specs.Short.{told_of}
use Rattle.upload_journal.specs.Foreseen.{change_of}
use Rattle.upload_journal.specs.Entries.{entry_of}
use Rattle.upload_journal.specs.Replay.{Point, IsAskOf, Applies}
use Rattle.upload_journal.proofs.Replays.{lawful_used}
use Rattle.upload_journal.proofs.Texts.{entry_read}
use Rattle.upload_journal.proofs.Foresight.{foreseen}
use Rattle.upload_store.specs.Found.{texts_of}
use Rattle.upload_store.specs.Salvage.{Stand, Salvages, ready, raised, of_read, highest}
use Rattle.upload_store.specs.Salvage.{number_asked}
use Rattle.upload_store.specs.Salvage.{number_told, stand_at, finished}
use Rattle.upload_store.proofs.Rescues.{by_test}

-- ---- one turn

issued_more : (n : ℕ) (change : SessionChange) → n ≤ issued_with n change
issued_more n change = search (rules, arith)

-- the session that a request goes to is there if something changes
session_there : (max_blob max_idle now : ℕ) (found : Option Session) (name at : List ℕ) (act : Act) (told : KeptAnswer)
    → told_of (answer_of (at_session max_blob (unless_idle max_idle now found) name at act)) ≡ Some told
    → (session : Session) × (found ≡ Some session)
session_there max_blob max_idle now None name at act told is = absurd (cc is)
session_there max_blob max_idle now (Some session) name at act told is = (session, refl)

-- of the session that a request goes to
abbrev asked_number : Ask → ℕ
asked_number (asks.Chunk name at range body) = number_of at
asked_number (asks.Close name at range digest body) = number_of at
asked_number other = 0

asked_is : (stands : ℕ → List ℕ → Type 0) (kept : KeptAsk) (ask : Ask) → IsAskOf stands kept ask
    → number_asked kept ≡ asked_number ask
asked_is stands kept ask is = search (rules, arith)

module _ (s : State) (lawful : IsLawful s) (secret : List ℕ) (now : ℕ) (told : KeptAnswer) where
  asked_low : (ask : Ask) → told_of (answer_of (outcome s ask secret now)) ≡ Some told → asked_number ask ≤ s.issued
  asked_low asks.Base is = omega arith
  asked_low (asks.Has name digest head) is = omega arith
  asked_low (asks.Opening name) is = omega arith
  asked_low (asks.Single name digest body) is = omega arith
  asked_low (asks.Mount name digest source) is = omega arith
  asked_low (asks.Chunk name at range body) is = search (rules, arith, session_there)
  asked_low (asks.Status name at) is = omega arith
  asked_low (asks.Close name at range digest body) is = search (rules, arith, session_there)
  asked_low (asks.Refused refusal) is = omega arith

-- an outcome that is told as a session that was begun has issued its number
abbrev Issues : ℕ → List ℕ → Outcome → Type 0
Issues issued at o = told_of (answer_of o) ≡ Some (Begun at) → number_of at ≤ issued_with issued (effect o).sessions

issues_opening : (b : Bool) (issued : ℕ) (name secret at : List ℕ)
    → Issues issued at (cond (b || nat_le last_number issued) (Replies (answers.Refused refusals.TooMany))
    (Begins name (reference (issued + 1) secret)))
issues_opening true issued name secret at = λ is. absurd (cc is)
issues_opening false issued name secret at = search (rules, arith, by_test, leb-false, number_of-reference)

not_taken : (f : Session → ℕ) (found : Option Session) (at : List ℕ)
    → option_map (λ session. Taken (f session)) found ≡ Some (Begun at) → ⊥
not_taken f None at is = cc is
not_taken f (Some session) at is = absurd (cc is)

not_stored : (digest : Option Digest) (at : List ℕ) → option_map Stored digest ≡ Some (Begun at) → ⊥
not_stored None at is = cc is
not_stored (Some digest) at is = absurd (cc is)

module _ (s : State) (secret : List ℕ) (now : ℕ) (at : List ℕ) where
  -- a request whose change is told otherwise begins none
  issues_none : (ask : Ask) → (change_of s ask secret ≡ Some (Begun at) → ⊥)
      → Issues s.issued at (outcome s ask secret now)
  issues_none ask never is = search (rules, arith, foreseen)

  issues : (ask : Ask) → Issues s.issued at (outcome s ask secret now)
  issues ask = search (rules, arith, issues_none, issues_opening, not_stored, by_test, not_taken)

told_low : (s : State) (ask : Ask) (secret : List ℕ) (now : ℕ) (told : KeptAnswer)
    → told_of (answer_of (outcome s ask secret now)) ≡ Some told
    → number_told told ≤ issued_with s.issued (effect (outcome s ask secret now)).sessions
told_low s ask secret now told is = search (rules, arith, issues)

-- ---- one entry

record Names (old new : Point) (n : ℕ) : Type 0 where
  pub lawful : IsLawful new.state
  pub grows : old.state.issued ≤ new.state.issued
  pub below : n ≤ new.state.issued

turn_names : (s : State) (ask : Ask) (secret : List ℕ) (now : ℕ) (answer : Answer) (t : State) (told : KeptAnswer)
    → IsLawful s → Turn s ask secret now answer t → told_of answer ≡ Some told
    → (s.issued ≤ t.issued) × (asked_number ask ≤ t.issued) × (number_told told ≤ t.issued)
unfolding Turn
turn_names s ask secret now answer t told lawful (inl did) is =
    let o = outcome s ask secret now in
    let issued : t.issued ≡ issued_with s.issued (effect o).sessions = ap (λ (u : State). u.issued) did.1 in
    let told_is = ap told_of (sym did.0) ∙ is in
    let more = issued_more s.issued (effect o).sessions in
    let low = asked_low s lawful secret now told ask told_is in
    let begun = told_low s ask secret now told told_is in
    (omega (arith, issued, more), omega (arith, issued, more, low), omega (arith, issued, begun))
turn_names s ask secret now answer t told lawful (inr lacked) is = absurd (cc (sym (ap told_of lacked.1) ∙ is))

entry_names : (stands : ℕ → List ℕ → Type 0) (p : Point) (entry : Entry) (q : Point) → IsLawful p.state
    → Applies stands p entry q → Names p q (highest entry)
entry_names stands p (Kept' kept) q lawful does = search (rules, arith, turn_names, asked_is, lawful_turn)
entry_names stands p (NumbersUpTo n) q lawful does =
    let issued : q.state.issued ≡ max p.state.issued n = ap (λ (r : Point). r.state.issued) does in
    record {
      lawful = subst (λ (r : Point). IsLawful r.state) (sym does) (lawful_used n p.state lawful);
      grows = omega (arith, issued);
      below = omega (arith, issued);
    }
entry_names stands p (MomentsUpTo m) q lawful does = search (rules, arith)

raised_names : (n : ℕ) (p : Point) → IsLawful p.state → Names p (raised n p) 0
raised_names n p lawful = search (rules, arith, lawful_used)

ready_names : (it : Stand) (read : Result Entry EntryFault) → IsLawful it.point.state → Names it.point (ready it read) 0
ready_names it read lawful = grind (arith, by_test, raised_names)

-- ---- one record after the other

-- the number is issued, or noted of a lost record
abbrev IsLow : Stand → ℕ → Type 0
IsLow it n = (min n last_number ≤ it.point.state.issued) ⊎ (n ≤ it.named)

record Passes (old : Stand) (texts : List (List ℕ)) (new : Stand) : Type 0 where
  pub lawful : IsLawful new.point.state
  pub grows : old.point.state.issued ≤ new.point.state.issued
  pub named : old.named ≤ new.named
  pub low : All (λ text. IsLow new (of_read highest (entry_of text))) texts

passes_none : (it : Stand) → IsLawful it.point.state → Passes it [] it
passes_none it lawful = search (rules, arith, All-nil)

still_low : (old : Stand) (texts : List (List ℕ)) (new : Stand) → Passes old texts new → (n : ℕ) → IsLow old n
    → IsLow new n
still_low old texts new passes n low = search (rules, arith)

passes_then : (old : Stand) (front : List (List ℕ)) (mid : Stand) (back : List (List ℕ)) (new : Stand)
    → Passes old front mid → Passes mid back new → Passes old (front ++ back) new
passes_then old front mid back new first second = search (rules, arith, All-append, All-weaker, still_low)

module _ (stands : ℕ → List ℕ → Type 0) (refused : ℕ → BodyFault → Type 0) where
  passes_one : (old : Stand) (time : ℕ) (text : List ℕ) (new : Stand) → IsLawful old.point.state
      → Salvages stands refused old time text new → Passes old (text ∷ []) new
  passes_one old time text new lawful (inl counts) =
      let P : List ℕ → Type 0 = λ t. IsLow new (of_read highest (entry_of t)) in
      let at = ready_names old (entry_of text) lawful in
      let names = entry_names stands (ready old (entry_of text)) counts.entry new.point at.lawful counts.applies in
      let read = ap entry_of counts.text_is ∙ entry_read counts.entry counts.is_entry in
      let number = ap (of_read highest) read in
      let named = ap (λ (s : Stand). s.named) counts.is in
      let first = at.grows in
      let second = names.grows in
      let below = names.below in
      record {
        lawful = names.lawful;
        grows = omega (arith, first, second);
        named = omega (arith, named);
        low = All-cons P text [] (inl (omega (arith, below, number))) (All-nil P);
      }
  passes_one old time text new lawful (inr loses) =
      let P : List ℕ → Type 0 = λ t. IsLow new (of_read highest (entry_of t)) in
      let at = ready_names old (entry_of text) lawful in
      let point : new.point ≡ ready old (entry_of text) = ap (λ (s : Stand). s.point) loses.is in
      let named : new.named ≡ max old.named (of_read highest (entry_of text)) =
      ap (λ (s : Stand). s.named) loses.is in
      record {
        lawful = subst (λ (p : Point). IsLawful p.state) (sym point) at.lawful;
        grows = subst (λ (p : Point). old.point.state.issued ≤ p.state.issued) (sym point) at.grows;
        named = omega (arith, named);
        low = All-cons P text [] (inr (omega (arith, named))) (All-nil P);
      }

  passes_records : (time : ℕ) (old : Stand) (texts : List (List ℕ)) (new : Stand) → IsLawful old.point.state
      → RunsRecords (Salvages stands refused) time old texts new → Passes old texts new
  passes_records time old [] new lawful same = search (rules, arith, passes_none)
  passes_records time old (text ∷ texts) new lawful run =
      let first = passes_one old time text run.0 lawful run.1 in
      passes_then old (text ∷ []) run.0 texts new first (passes_records time run.0 texts new first.lawful run.2)

  passes_batches : (old : Stand) (all : List Kept) (new : Stand) → IsLawful old.point.state
      → Runs (Salvages stands refused) old all new → Passes old (texts_of all) new
  passes_batches old [] new lawful same = search (rules, arith, passes_none)
  passes_batches old (kept ∷ rest) new lawful run =
      grind (arith, common_steps, passes_records, passes_then, passes_batches run.0 rest new)

  pub all_issued : (old : Point) (all : List Kept) (end : Stand) → IsLawful old.state
      → Runs (Salvages stands refused) (stand_at old) all end
      → All (λ text. min (of_read highest (entry_of text)) last_number ≤ (finished end).state.issued) (texts_of all)
  all_issued old all end lawful run = search (rules, arith, passes_batches, All-weaker)
