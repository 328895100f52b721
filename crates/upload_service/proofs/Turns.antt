-- What one turn does to each session.
use Rattle.std.proofs.Common.{◌≡◌, ◌≢◌, ℕ, ◌+◌, ◌<◌, ◌≤◌, ◌^◌, List, true, false, Some, None, sym, ◌∙◌, ap}
use Rattle.std.proofs.Common.{◌⊎◌, inl, inr, arith, rules}
use Rattle.std.proofs.lemmas.Bool.{true≢false}
use Rattle.std.specs.FinMap as map
use Rattle.upload_names.specs.Reference.{reference, number_of}
use Rattle.upload_service.specs.declared.limits.Limits.{Limits}
use Rattle.upload_service.specs.declared.answer.Refusal.TheVariants as refusals
use Rattle.upload_service.specs.declared.ask.Ask.{Ask}
use Rattle.upload_service.specs.declared.answer.Answer.{Answer}
use Rattle.upload_service.specs.declared.answer.Answer.TheVariants as answers
use Rattle.upload_service.specs.UploadView.{Act, OfSession, upload_view, opened_under}
use Rattle.upload_service.specs.Machine.{is_idle, unless_idle, Session, State, Outcome, SessionChange}
use Rattle.upload_service.specs.Machine.{AllStay, OneBegins, OneTakes, OneLeaves, effect, answer_of, issued_with}
use Rattle.upload_service.specs.Machine.{sessions_with, state_after, refused, at_session, last_number, outcome}
use Rattle.upload_service.specs.Session.{carries, begins}
use Rattle.upload_service.specs.Alone.{Life, Unborn, Open, Gone, life_with, alone_outcome}
use Rattle.upload_service.specs.Alone.{alone_answer, alone_after}
use Rattle.upload_service.proofs.Keeping.Tables.{eq_from_same}
use Rattle.std.proofs.lemmas.Nat.{from_be_bytes-to_be_bytes_4}
use Rattle.upload_service.proofs.Keeping.Tables.{one_or_two, get-insert_same, get-insert_other, get-remove_same}
use Rattle.upload_service.proofs.Keeping.Tables.{get-remove_other, ne_from_same}
use Rattle.upload_service.proofs.UploadView.{carried}
use Rattle.upload_service.proofs.Steps.{outcome_of_view, None≢Some, turn_fits}
use Rattle.upload_service.proofs.Steps.{idle_is_none}
use Rattle.upload_service.proofs.Effects.{AsksToBegin, FitsChange, IsOutcome, state_with}
use Rattle.upload_service.proofs.Sweeps.{kept_or_left, was_there, idle_later, idle_from}

pub number_of-reference : (n : ℕ) (secret : List ℕ) → n < 2 ^ 32 → number_of (reference n secret) ≡ n
unfolding number_of reference
number_of-reference n secret h = from_be_bytes-to_be_bytes_4 n h

-- each open session's number was issued
abbrev pub IsNumbered : State → Type 0
IsNumbered s = (at : List ℕ) (session : Session) → map.get s.sessions at ≡ Some session → number_of at ≤ s.issued

pub new_number : (s : State) (secret at : List ℕ) → at ≡ reference (s.issued + 1) secret → s.issued < last_number
    → number_of at ≡ s.issued + 1
new_number s secret at e h = ap number_of e ∙ number_of-reference (s.issued + 1) secret (omega arith)

-- a number that was issued isn't the next
pub not_new : (s : State) (secret at new : List ℕ) → new ≡ reference (s.issued + 1) secret → s.issued < last_number
    → number_of at ≤ s.issued → at ≢ new
not_new s secret at new e h le same = search (rules, arith, new_number)

numbered_with : (s : State) (ask : Ask) (secret : List ℕ) (now : ℕ) (answer : Answer) (change : SessionChange)
    → FitsChange s ask secret now answer change → IsNumbered s
    → (at : List ℕ) (session : Session) → map.get (sessions_with s now change) at ≡ Some session
    → number_of at ≤ issued_with s.issued change
numbered_with s ask secret now answer change h1 h2 at session h3 =
    grind (arith, one_or_two, new_number, was_there, get-insert_other, None≢Some, get-remove_same, get-remove_other)

pub numbered_after : (s : State) (ask : Ask) (secret : List ℕ) (now : ℕ) (o : Outcome) → IsOutcome s ask secret now o
    → IsNumbered s → IsNumbered (state_after s now o)
numbered_after s ask secret now o f h = search (rules, arith, numbered_with)

-- an issued reference that isn't in the table
abbrev pub IsGone : State → List ℕ → Type 0
IsGone s at = (map.get s.sessions at ≡ None) × (number_of at ≤ s.issued)

-- a session that has left the table, and is idle from this moment on
pub record LeftIdle (s : State) (now : ℕ) (at : List ℕ) (session : Session) : Type 0 where
  pub gone : IsGone s at
  pub idle : session.seen + s.limits.max_idle < now

-- what a session is in a state, if no moment to come is before this one
abbrev pub Fits : State → ℕ → List ℕ → Life → Type 0
Fits s now at Unborn = map.get s.sessions at ≡ None
Fits s now at (Open session) = (map.get s.sessions at ≡ Some session) ⊎ LeftIdle s now at session
Fits s now at Gone = IsGone s at

-- the part of the table at a reference and the count of numbers are all that a life speaks of
pub fits_by : (s t : State) (from now : ℕ) (at : List ℕ) (life : Life) → map.get t.sessions at ≡ map.get s.sessions at
    → s.issued ≤ t.issued → t.limits ≡ s.limits → from ≤ now → Fits s from at life → Fits t now at life
fits_by s t from now at life h1 h2 h3 h4 h5 = search (rules, arith)

-- a session that leaves the table because it is idle
fits_left : (s t : State) (from now : ℕ) (at : List ℕ) (life : Life) → IsNumbered s → (session : Session)
    → map.get s.sessions at ≡ Some session → is_idle s.limits.max_idle now session ≡ true → map.get t.sessions at ≡ None
    → s.issued ≤ t.issued → t.limits ≡ s.limits → Fits s from at life → Fits t now at life
fits_left s t from now at life h1 session h2 h3 h4 h5 h6 h7 = search (rules, arith, idle_from, None≢Some)

-- an exchange that isn't the session's leaves the session
others_leave_with : (s : State) (ask : Ask) (secret : List ℕ) (from now : ℕ) (answer : Answer) (change : SessionChange)
    (rest : State) → FitsChange s ask secret now answer change
    → IsNumbered s → from ≤ now → (at : List ℕ) (life : Life) → carries at ask ≡ false → begins at answer ≡ false
    → Fits s from at life → Fits (state_with s now change rest) now at life
others_leave_with s ask secret from now answer AllStay rest f h later at life c b fits =
    search (rules, arith, fits_by, state_with)
others_leave_with s ask secret from now answer (OneBegins name new) rest f h later at life c b fits =
    search (rules, arith, state_with, get-insert_other, ne_from_same, kept_or_left, fits_by, fits_left)
others_leave_with s ask secret from now answer (OneTakes name to received) rest f h later at life c b fits =
    search (rules, arith, fits_by, state_with, get-insert_other, ne_from_same)
others_leave_with s ask secret from now answer (OneLeaves to) rest f h later at life c b fits =
    search (rules, arith, fits_by, state_with, get-remove_other, ne_from_same)

pub others_leave : (s : State) (ask : Ask) (secret : List ℕ) (from now : ℕ) (o : Outcome) → IsOutcome s ask secret now o
    → IsNumbered s → from ≤ now → (at : List ℕ) (life : Life) → carries at ask ≡ false → begins at (answer_of o) ≡ false
    → Fits s from at life → Fits (state_after s now o) now at life
others_leave s ask secret from now o f h later at life c b fits =
    others_leave_with s ask secret from now (answer_of o) (effect o).sessions (state_after s now o)
    f.change h later at life c b fits

-- what carries a reference doesn't ask to begin
no_opening_carries : (name at : List ℕ) (ask : Ask) → AsksToBegin name ask → carries at ask ≡ true → ⊥
no_opening_carries name at ask a c = None≢Some (sym (ap opened_under (carried at ask c).view) ∙ a)

-- an open session after a request that carries its reference
open_with : (s : State) (ask : Ask) (secret : List ℕ) (now : ℕ) (answer : Answer) (change : SessionChange)
    (rest : State) → FitsChange s ask secret now answer change
    → IsNumbered s → (at : List ℕ) (session : Session) → map.get s.sessions at ≡ Some session → carries at ask ≡ true
    → Fits (state_with s now change rest) now at (life_with session now change)
open_with s ask secret now answer change rest h1 h2 at session h3 h4 =
    search (rules, arith, no_opening_carries, eq_from_same, get-insert_same, get-remove_same)

-- the session's own exchange gives what it gives alone
pub record Own (s : State) (ask : Ask) (now : ℕ) (o : Outcome) (at : List ℕ) (life : Life) : Type 0 where
  pub told : answer_of o ≡ alone_answer s.limits at life ask now
  pub fits : Fits (state_after s now o) now at (alone_after s.limits life ask now)

own_refused : (s : State) (ask : Ask) (now : ℕ) (o : Outcome) (at : List ℕ) (life : Life)
    → o ≡ refused refusals.NoUpload
    → alone_answer s.limits at life ask now ≡ answers.Refused refusals.NoUpload
    → alone_after s.limits life ask now ≡ life → Fits s now at life → Own s ask now o at life
own_refused s ask now o at life e a l fits = search (rules, arith)

-- what a request asks of this session, alone
alone_act : (limits : Limits) (session : Session) (ask : Ask) (now : ℕ) (name at : List ℕ) (act : Act)
    → upload_view ask ≡ OfSession name at act → alone_outcome limits session ask now
    ≡ at_session limits.max_blob (unless_idle limits.max_idle now (Some session)) name at act
alone_act limits session ask now name at act view = cc

own_carried : (s : State) (ask : Ask) (secret : List ℕ) (from now : ℕ) (name at : List ℕ) (act : Act) (life : Life)
    → IsNumbered s → from ≤ now → upload_view ask ≡ OfSession name at act → carries at ask ≡ true → Fits s from at life
    → Own s ask now (outcome s ask secret now) at life
own_carried s ask secret from now name at act life h1 h2 h3 h4 h5 =
    grind (arith, own_refused, outcome_of_view, alone_act, open_with, turn_fits, idle_later, idle_is_none, fits_by)

pub own_by_reference : (s : State) (ask : Ask) (secret : List ℕ) (from now : ℕ) (at : List ℕ) (life : Life)
    → IsNumbered s → from ≤ now → carries at ask ≡ true → Fits s from at life
    → Own s ask now (outcome s ask secret now) at life
own_by_reference s ask secret from now at life h later c fits =
    let to = carried at ask c in own_carried s ask secret from now to.name at to.act life h later to.view c fits

-- what a request that asks to begin it is told, and what the session is then
begun_alone : (s : State) (ask : Ask) (now : ℕ) (name at new : List ℕ) (rest : State) → at ≡ new → AsksToBegin name ask
    → (answers.Begun name new ≡ alone_answer s.limits at Unborn ask now)
    × Fits (state_with s now (OneBegins name new) rest) now at (alone_after s.limits Unborn ask now)
begun_alone s ask now name at new rest is a = search (rules, arith, state_with, get-insert_same)

own_with : (s : State) (ask : Ask) (secret : List ℕ) (from now : ℕ) (answer : Answer) (change : SessionChange)
    (rest : State) → FitsChange s ask secret now answer change
    → (at : List ℕ) (life : Life) → IsNumbered s → begins at answer ≡ true → Fits s from at life
    → (answer ≡ alone_answer s.limits at life ask now)
    × Fits (state_with s now change rest) now at (alone_after s.limits life ask now)
own_with s ask secret from now answer AllStay rest f at life h b fits = search (rules, arith, true≢false)
own_with s ask secret from now answer (OneBegins name new) rest f at Unborn h b fits =
    let own =
    begun_alone s ask now name at new rest (eq_from_same at new (sym (ap (begins at) f.1) ∙ b)) f.0.asked in
    (f.1 ∙ own.0, own.1)
own_with s ask secret from now answer (OneBegins name new) rest f at (Open session) h b (inl fits) =
    absurd (not_new s secret at new f.0.is_new f.0.numbers_left (h at session fits)
    (eq_from_same at new (sym (ap (begins at) f.1) ∙ b)))
own_with s ask secret from now answer (OneBegins name new) rest f at (Open session) h b (inr left) =
    absurd (not_new s secret at new f.0.is_new f.0.numbers_left left.gone.1
    (eq_from_same at new (sym (ap (begins at) f.1) ∙ b)))
own_with s ask secret from now answer (OneBegins name new) rest f at Gone h b fits =
    absurd (not_new s secret at new f.0.is_new f.0.numbers_left fits.1
    (eq_from_same at new (sym (ap (begins at) f.1) ∙ b)))
own_with s ask secret from now answer (OneTakes name to received) rest f at life h b fits =
    search (rules, arith, true≢false)
own_with s ask secret from now answer (OneLeaves to) rest f at life h b fits = search (rules, arith, true≢false)

pub own_by_opening : (s : State) (ask : Ask) (secret : List ℕ) (from now : ℕ) (o : Outcome)
    → IsOutcome s ask secret now o → (at : List ℕ) (life : Life) → IsNumbered s → begins at (answer_of o) ≡ true
    → Fits s from at life → Own s ask now o at life
own_by_opening s ask secret from now o f at life h b fits =
    let own =
    own_with s ask secret from now (answer_of o) (effect o).sessions (state_after s now o)
    f.change at life h b fits in
    record { told = own.0; fits = own.1 }
