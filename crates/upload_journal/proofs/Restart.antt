-- What changed nothing can be left out.
use Rattle.std.proofs.Common.{◌≡◌, ℕ, ◌≤◌, Bool, true, false, List, [], ◌∷◌, ◌++◌, Option, Some, None, refl, sym, ap}
use Rattle.std.proofs.Common.{subst, ◌∙◌, inl, inr, arith, cond, rules}
use Rattle.std.specs.Prelude.{is_some}
use Rattle.upload_service.specs.declared.ask.Ask.{Ask}
use Rattle.upload_service.specs.declared.ask.Extent.{Extent}
use Rattle.upload_service.specs.declared.answer.Answer.{Answer}
use Rattle.upload_service.specs.Machine.{State, Outcome, Replies, answer_of}
use Rattle.upload_service.specs.Machine.{state_after, outcome, Turn, unless_fault, body_fault, Progress, at_session}
use Rattle.upload_service.specs.Machine.{in_session, blob_reply, Session}
use Rattle.upload_service.specs.UploadView.{Act}
use Rattle.upload_names.specs.Digest.{Digest}
use Rattle.upload_service.specs.Run.{Exchange, Run, NeverBefore}
use Rattle.upload_service.proofs.Whole.{headline_holds}
use Rattle.upload_journal.specs.declared.body.BodyFile.{BodyFile}
use Rattle.upload_journal.specs.declared.entries.KeptAnswer.{KeptAnswer}
use Rattle.upload_journal.specs.Short.{told_of, kept_of}
use Rattle.upload_journal.specs.Restart.{changes, changes_of, NeverAfter, ChangesAreEnough}

-- ---- one turn

stays : (s : State) (now : ℕ) (o : Outcome) → told_of (answer_of o) ≡ None → state_after s now o ≡ s
stays s now o = search (rules, arith)

pub turn_stays : (old : State) (ask : Ask) (secret : List ℕ) (now : ℕ) (answer : Answer) (new : State)
    → Turn old ask secret now answer new → told_of answer ≡ None → new ≡ old
unfolding Turn
turn_stays old ask secret now answer new h = search (rules, arith, stays)

some_or_none : (o : Option KeptAnswer) → is_some o ≡ false → o ≡ None
some_or_none None e = refl
some_or_none (Some told) e = absurd cc

told_is : (o : Option KeptAnswer) → o ≡ None → is_some o ≡ true → ⊥
told_is o none some = absurd cc

pub turn_leads : (old : State) (ask : Ask) (secret : List ℕ) (now : ℕ) (answer : Answer) (new other : State)
    → Turn old ask secret now answer new → Turn old ask secret now answer other → is_some (told_of answer) ≡ true
    → other ≡ new
unfolding Turn
turn_leads old ask secret now answer new other h = search (rules, arith, told_is)

-- ---- runs

pub both_ways : {A : Type 0} (b : Bool) → (b ≡ true → A) → (b ≡ false → A) → A
both_ways true first second = first refl
both_ways false first second = second refl

leaves_out : (old : State) (xs : List Exchange) (new : State) → Run old xs new → Run old (changes_of xs) new
leaves_out old [] new run = run
leaves_out old (x ∷ xs) new run =
    let rest = leaves_out run.0 xs new run.2 in
    both_ways (changes x) (λ some. rw some (run.0, run.1, rest)) (λ none.
    let same = turn_stays old x.ask x.secret x.now x.answer run.0 run.1 (some_or_none _ none) in
    rw none (subst (λ s. Run s (changes_of xs) new) same rest))

leads_to : (old : State) (xs : List Exchange) (new other : State) → Run old xs new → Run old (changes_of xs) other
    → other ≡ new
leads_to old [] new other run again = again ∙ sym run
leads_to old (x ∷ xs) new other run again =
    search (rules, arith, both_ways, turn_leads, turn_stays, some_or_none, leads_to run.0 xs new other run.2)

pub run_on : (old : State) (xs : List Exchange) (mid : State) (ys : List Exchange) (new : State) → Run old xs mid
    → Run mid ys new → Run old (xs ++ ys) new
run_on old [] mid ys new run more = subst (λ s. Run s ys new) run more
run_on old (x ∷ xs) mid ys new run more = (run.0, run.1, run_on run.0 xs mid ys new run.2 more)

-- ---- moments

pub earlier : (first then' : ℕ) (xs : List Exchange) → first ≤ then' → NeverBefore then' xs → NeverBefore first xs
earlier first then' [] le h = tt
earlier first then' (x ∷ xs) le h = let later = h.0 in (omega arith, h.1)

keep_moments : (moment : ℕ) (xs : List Exchange) → NeverBefore moment xs → NeverBefore moment (changes_of xs)
keep_moments moment [] h = tt
keep_moments moment (x ∷ xs) h = search (rules, arith, both_ways, earlier, keep_moments x.now xs h.1)

go_on : (first moment : ℕ) (xs ys : List Exchange) → first ≤ moment → NeverBefore first xs → NeverAfter moment xs
    → NeverBefore moment ys → NeverBefore first (xs ++ ys)
go_on first moment [] ys le before after more = earlier first moment ys le more
go_on first moment (x ∷ xs) ys le before after more = (before.0, go_on x.now moment xs ys after.0 before.1 after.1 more)

-- ---- requests that aren't kept

-- what changes nothing
pub record IsSilent (o : Outcome) : Type 0 where
  pub none : told_of (answer_of o) ≡ None

pub nothing : (answer : Answer) → told_of answer ≡ None → IsSilent (Replies answer)
nothing answer e = record { none = e }

silent_if : (b : Bool) (x y : Outcome) → IsSilent x → IsSilent y → IsSilent (cond b x y)
silent_if true x y h k = h
silent_if false x y h k = k

-- a fault that an answer tells which changes nothing
pub record IsSilentFault (fault : Option Answer) : Type 0 where
  pub none : (answer : Answer) → fault ≡ Some answer → told_of answer ≡ None

pub no_fault : IsSilentFault None
no_fault = record { none = λ answer e. absurd cc }

pub fault_if : (b : Bool) (answer : Answer) (f : Option Answer) → told_of answer ≡ None → IsSilentFault f
    → IsSilentFault (cond b (Some answer) f)
fault_if true answer f h k = search (rules, arith)
fault_if false answer f h k = k

silent_unless : (f : Option Answer) (o : Outcome) → IsSilentFault f → IsSilent o → IsSilent (unless_fault f o)
silent_unless None o h k = k
silent_unless (Some answer) o h k = nothing answer (h.none answer refl)

pub silent_body : (max_blob : ℕ) (upload : Progress) (range : Extent) (body : List ℕ)
    → IsSilentFault (body_fault max_blob upload range body)
silent_body max_blob upload range body = search (rules, arith, fault_if, no_fault)

silent_session : (max_blob : ℕ) (session : Option Session) (name at : List ℕ) (act : Act)
    → ((s : Session) → IsSilent (in_session max_blob s name at act))
    → IsSilent (at_session max_blob session name at act)
silent_session max_blob None name at act h = nothing _ refl
silent_session max_blob (Some session) name at act h = silent_if _ _ _ (h session) (nothing _ refl)

silent_blob : (digest : Digest) (head : Bool) (blob : Option (List ℕ)) → IsSilent (blob_reply digest head blob)
silent_blob digest head None = nothing _ refl
silent_blob digest head (Some blob) = nothing _ refl

silent : (s : State) (ask : Ask) (files : List BodyFile) (secret : List ℕ) (now : ℕ) → kept_of ask files ≡ None
    → IsSilent (outcome s ask secret now)
silent s ask files secret now h =
    grind (arith, nothing, silent_if, silent_blob, silent_unless, fault_if, no_fault, silent_session, silent_body)

unkept : (old : State) (ask : Ask) (files : List BodyFile) (secret : List ℕ) (now : ℕ) (answer : Answer)
    (new : State) → kept_of ask files ≡ None → Turn old ask secret now answer new → told_of answer ≡ None
unfolding Turn
unkept old ask files secret now answer new e (inl turn) = ap told_of turn.0 ∙ (silent old ask files secret now e).none
unkept old ask files secret now answer new e (inr turn) = ap told_of turn.1

pub changes_are_enough : ChangesAreEnough
changes_are_enough = record {
  unchanged = turn_stays;
  unkept = unkept;
  same_state = leaves_out;
  only = leads_to;
  moments = keep_moments;
  over_a_restart = λ old xs mid again moment ys new lawful falls run kept after before more.
      headline_holds old (xs ++ ys) new lawful (go_on 0 moment xs ys (omega arith) falls after before)
      (run_on old xs mid ys new run (subst (λ s. Run s ys new) (leads_to old xs mid again run kept) more));
}
