-- What a turn of the service does, case by case.
use Rattle.std.proofs.Common.{◌≡◌, ℕ, ◌+◌, ◌<◌, ◌≤◌, List, [], ◌∷◌, Bool, true, false, Option, Some, None}
use Rattle.std.proofs.Common.{refl, sym, subst, inl, inr, not, arith, rules}
use Rattle.std.specs.Prelude.{◌||◌}
use Rattle.std.proofs.lemmas.Bool.{true≢false, leb-false, eqb-true}
use Rattle.std.specs.FinMap as map
use Rattle.upload_names.specs.ByteRange.{Span}
use Rattle.upload_names.specs.Reference.{reference}
use Rattle.upload_service.specs.declared.ask.Ask.{Ask}
use Rattle.upload_service.specs.declared.ask.Extent.TheVariants.{Given}
use Rattle.upload_service.specs.declared.answer.Answer.{Answer}
use Rattle.upload_service.specs.declared.answer.Answer.TheVariants as answers
use Rattle.upload_service.specs.declared.answer.Refusal.TheVariants as refusals
use Rattle.upload_service.specs.UploadView.{Act}
use Rattle.upload_service.specs.Machine.{awake, Session, State, Outcome, Begins}
use Rattle.upload_service.specs.Machine.{SessionChange, effect, issued_with}
use Rattle.upload_service.specs.Machine.{refused, size_fault, body_fault, in_session, at_session, last_number, opening}
use Rattle.upload_service.specs.Machine.{outcome, Comes, Turn, IsLawful}
use Rattle.upload_service.specs.Run.{Exchange}
use Rattle.upload_service.specs.Headline.{HeadlineHolds}
use Rattle.upload_push.proofs.Cases.{cond_case}

pub None≢Some : {A : Type 0} {x : A} → None ≡ Some x → ⊥
None≢Some e = cc

pub same_inside : {A : Type 0} {x y : A} → Some x ≡ Some y → x ≡ y
same_inside e = cc

-- the cases of a body's length
pub size_case : (P : Option Answer → Type 0) (max_blob next : ℕ) (body : List ℕ)
    → P (Some (answers.Refused refusals.TooLarge)) → P None → P (size_fault max_blob next body)
size_case P max_blob next body large fits = search (rules, arith, cond_case)

not_false : (b : Bool) → not b ≡ false → b ≡ true
not_false true e = refl
not_false false e = absurd (true≢false e)

-- the cases of a body with a range
pub body_case : (P : Option Answer → Type 0) (max_blob : ℕ) (name at : List ℕ) (next : ℕ) (range : Span) (body : List ℕ)
    → P (Some (answers.Misplaced name at next)) → P (Some (answers.Refused refusals.WrongLength))
    → P (Some (answers.Refused refusals.TooLarge)) → (range.first ≡ next → P None)
    → P (body_fault max_blob (record { name = name; at = at; next = next }) (Given range) body)
body_case P max_blob name at next range body misplaced wrong large fits =
    search (rules, arith, cond_case, eqb-true, not_false, size_case)

-- the cases of a request to a session: it isn't there, idle or of another name, or it is open
pub session_case : (P : Outcome → Type 0) (s : State) (now : ℕ) (name at : List ℕ) (act : Act)
    → P (refused refusals.NoUpload) → ((session : Session) → map.get s.sessions at ≡ Some session
    → P (in_session s.limits.max_blob session name at act))
    → P (at_session s.limits.max_blob (awake s now at) name at act)
session_case P s now name at act none opened = search (rules, arith, cond_case)

or_false : (a b : Bool) → (a || b) ≡ false → b ≡ false
or_false true b e = absurd (true≢false e)
or_false false b e = e

-- the cases of an opening
pub opening_case : (P : Outcome → Type 0) (s : State) (name secret : List ℕ) (now : ℕ) → P (refused refusals.TooMany)
    → (s.issued < last_number → P (Begins name (reference (s.issued + 1) secret))) → P (opening s name secret now)
opening_case P s name secret now many begins = search (rules, arith, cond_case, leb-false, or_false)

-- a turn of which each outcome's reply and state are known
pub turn_case : (Q : Answer → State → Type 0) (s : State) (ask : Ask) (secret : List ℕ) (now : ℕ) (answer : Answer)
    (new : State) → ((a : Answer) (t : State) → Comes s now (outcome s ask secret now) a t → Q a t)
    → Turn s ask secret now answer new → Q answer new
unfolding Turn
turn_case Q s ask secret now answer new each turn = each answer new turn

-- each turn leaves a lawful service lawful
pub lawful_turn : HeadlineHolds → (s : State) (ask : Ask) (secret : List ℕ) (now : ℕ) (answer : Answer) (new : State)
    → IsLawful s → Turn s ask secret now answer new → IsLawful new
lawful_turn headline s ask secret now answer new lawful turn =
    let x : Exchange = record { ask = ask; secret = secret; now = now; answer = answer } in
    (headline s (x ∷ []) new lawful (omega arith, tt) (new, turn, refl)).lawful

-- numbers that were issued stay issued
issued_stay : (issued : ℕ) (change : SessionChange) → issued ≤ issued_with issued change
issued_stay issued change = search (rules, arith)

pub issued_turn : (s : State) (ask : Ask) (secret : List ℕ) (now : ℕ) (answer : Answer) (new : State)
    → Turn s ask secret now answer new → s.issued ≤ new.issued
issued_turn s ask secret now answer new turn =
    let Q : Answer → State → Type 0 = λ a t. s.issued ≤ t.issued in
    turn_case Q s ask secret now answer new
    (λ a t comes. elim comes [
      | inl c ↦ subst (λ (x : State). s.issued ≤ x.issued) (sym c.1)
          (issued_stay s.issued (effect (outcome s ask secret now)).sessions)
      | inr c ↦ subst (λ (x : State). s.issued ≤ x.issued) (sym c.2) (omega arith)
    ]) turn
