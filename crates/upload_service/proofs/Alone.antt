-- Each session's replies are those that it gets alone.
use Rattle.std.proofs.Common.{◌≡◌, ℕ, List, [], ◌∷◌, Bool, true, false, Option, refl, sym, ◌∙◌, ap, subst}
use Rattle.std.proofs.Common.{◌⊎◌, inl, inr, cond, arith, not, rules}
use Rattle.std.specs.Prelude.{◌||◌, nat_le}
use Rattle.std.specs.FinMap as map
use Rattle.upload_names.specs.Reference.{number_of}
use Rattle.upload_service.specs.declared.limits.Limits.{Limits}
use Rattle.upload_service.specs.declared.ask.Ask.{Ask}
use Rattle.upload_service.specs.declared.answer.Answer.{Answer}
use Rattle.upload_service.specs.Machine.{Session, State, Outcome, answer_of, state_after, outcome}
use Rattle.std.specs.Prelude.{filter, map as list_map}
use Rattle.std.proofs.lemmas.Bool.{leb-true}
use Rattle.upload_service.specs.Machine.{Turn, IsLawful}
use Rattle.upload_service.proofs.Claims.{AnsweredAsAlone}
use Rattle.upload_service.specs.Run.{Exchange, NeverBefore, Run}
use Rattle.upload_service.specs.Session.{carries, begins, is_part, part}
use Rattle.upload_service.specs.Alone.{Life, life_of, alone_answer, alone_after, alone, lacks_memory, told}
use Rattle.upload_service.proofs.Steps.{outcome_sound}
use Rattle.upload_service.proofs.Effects.{IsOutcome}
use Rattle.upload_service.proofs.Turns.{IsNumbered, numbered_after, Fits, fits_by, others_leave, Own, own_by_reference}
use Rattle.upload_service.proofs.Turns.{own_by_opening}

pub told_other : (x : Exchange) (xs : List Exchange) (at : List ℕ) → is_part at x ≡ false
    → told (x ∷ xs) at ≡ told xs at
told_other x xs at e = ap (λ b. filter (λ y. not (lacks_memory y.answer)) (cond b (x ∷ part xs at) (part xs at))) e

pub told_none : (x : Exchange) (xs : List Exchange) (at : List ℕ) → lacks_memory x.answer ≡ true
    → told (x ∷ xs) at ≡ told xs at
told_none x xs at e = search (rules, arith)

pub told_own : (x : Exchange) (xs : List Exchange) (at : List ℕ) → is_part at x ≡ true → lacks_memory x.answer ≡ false
    → told (x ∷ xs) at ≡ x ∷ told xs at
told_own x xs at e m = cc

pub limits_turn : (s : State) (ask : Ask) (secret : List ℕ) (now : ℕ) (answer : Answer) (t : State)
    → Turn s ask secret now answer t → t.limits ≡ s.limits
unfolding Turn
limits_turn s ask secret now answer t (inl did) = cc
limits_turn s ask secret now answer t (inr lacked) = ap (λ q. q.limits) lacked.2

-- Where this holds of the run after an exchange, it holds of the run with it.
abbrev pub SoFar : Limits → List ℕ → Life → List Exchange → Type 0
SoFar limits at life xs =
    list_map (λ x. x.answer) (told xs at)
    ≡ alone limits at life (list_map (λ x. (x.ask, x.now)) (told xs at))

one_more : (limits : Limits) (at : List ℕ) (life : Life) (x : Exchange) (xs : List Exchange)
    → told (x ∷ xs) at ≡ x ∷ told xs at → x.answer ≡ alone_answer limits at life x.ask x.now
    → SoFar limits at (alone_after limits life x.ask x.now) xs → SoFar limits at life (x ∷ xs)
one_more limits at life x xs e a h = cc

none_more : (limits : Limits) (at : List ℕ) (life : Life) (x : Exchange) (xs : List Exchange)
    → told (x ∷ xs) at ≡ told xs at → SoFar limits at life xs → SoFar limits at life (x ∷ xs)
none_more limits at life x xs e h = cc

-- one of two: the exchange is the session's own by its request or by its answer, or it is another's
own_or_other : (at : List ℕ) (x : Exchange) → (carries at x.ask ≡ true)
    ⊎ ((begins at x.answer ≡ true) ⊎ ((carries at x.ask ≡ false) × (begins at x.answer ≡ false)))
own_or_other at x = search (rules, arith)

or_true : (a b : Bool) → b ≡ true → (a || b) ≡ true
or_true true b e = refl
or_true false b e = e

abbrev Goal : Limits → List ℕ → List Exchange → Type 0
Goal limits at xs =
    (s t : State) (from : ℕ) (life : Life) → s.limits ≡ limits → IsNumbered s → NeverBefore from xs → Run s xs t
    → Fits s from at life → SoFar limits at life xs

by_own : (limits : Limits) (at : List ℕ) (x : Exchange) (xs : List Exchange) (s mid t : State) (life : Life)
    → s.limits ≡ limits → IsNumbered mid → x.answer ≡ answer_of (outcome s x.ask x.secret x.now)
    → mid ≡ state_after s x.now (outcome s x.ask x.secret x.now) → is_part at x ≡ true
    → Own s x.ask x.now (outcome s x.ask x.secret x.now) at life → NeverBefore x.now xs → Run mid xs t
    → Goal limits at xs → SoFar limits at life (x ∷ xs)
unfolding Turn
by_own limits at x xs s mid t life m n e d p own later rest more =
    search (rules, arith, one_more, told_own, outcome_sound, Fits)

pub alone_so_far : (limits : Limits) (at : List ℕ) (xs : List Exchange) → Goal limits at xs
unfolding Turn
alone_so_far limits at [] s t from life m h never run fits = refl
alone_so_far limits at (x ∷ xs) s t from life m h (later, never) (mid, turn, rest) fits =
    let o : Outcome = outcome s x.ask x.secret x.now in
    let f : IsOutcome s x.ask x.secret x.now o = outcome_sound s x.now x.ask x.secret in
    elim turn [
      | inl did ↦
          let n : IsNumbered mid = subst IsNumbered (sym did.1) (numbered_after s x.ask x.secret x.now o f h) in
          elim (own_or_other at x) [
            | inl c ↦ by_own limits at x xs s mid t life m n did.0 did.1 (ap (λ b. b || begins at x.answer) c)
                (own_by_reference s x.ask x.secret from x.now at life h later c fits) never rest
                (alone_so_far limits at xs)
            | inr other ↦
                elim other [
                  | inl b ↦ by_own limits at x xs s mid t life m n did.0 did.1 (or_true (carries at x.ask) _ b)
                      (own_by_opening s x.ask x.secret from x.now o f at life h (sym (ap (begins at) did.0) ∙ b) fits)
                      never rest (alone_so_far limits at xs)
                  | inr none ↦
                      none_more limits at life x xs
                      (told_other x xs at (ap (λ b. b || begins at x.answer) none.0 ∙ none.1))
                      (alone_so_far limits at xs mid t x.now life
                      (ap (λ q. q.limits) did.1 ∙ m) n never rest
                      (subst (λ q. Fits q x.now at life) (sym did.1) (others_leave s x.ask x.secret from x.now o f h
                      later at life none.0 (sym (ap (begins at) did.0) ∙ none.1) fits)))
                ]
          ]
      | inr lacked ↦
          none_more limits at life x xs (told_none x xs at (ap lacks_memory lacked.1))
          (alone_so_far limits at xs mid t x.now life (ap (λ q. q.limits) lacked.2 ∙ m)
          (subst IsNumbered (sym lacked.2) h) never rest
          (fits_by s mid from x.now at life (ap (λ q. map.get q.sessions at) lacked.2) (let same : mid.issued
          ≡ s.issued = ap (λ q. q.issued) lacked.2 in omega arith) (ap (λ q. q.limits) lacked.2) later fits))
    ]

pub fits_at_start : (s : State) (at : List ℕ) (o : Option Session) (b : Bool) → map.get s.sessions at ≡ o
    → nat_le (number_of at) s.issued ≡ b → Fits s 0 at (life_of o b)
fits_at_start s at o b h = search (rules, arith, leb-true)

pub numbered_if_lawful : (s : State) → IsLawful s → IsNumbered s
numbered_if_lawful s h at session e = (h.numbered at session e).1

pub answered_as_alone : AnsweredAsAlone
unfolding Turn
answered_as_alone start xs end lawful never run at =
    search (rules, arith, alone_so_far, numbered_if_lawful, fits_at_start)
