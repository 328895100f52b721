-- What one seat's steps are, once all ends are back.
use Rattle.std.proofs.Common.{◌≡◌, ℕ, Bool, true, false, List, [], ◌∷◌, ◌++◌, map, cond, sym, refl, ap}
use Rattle.std.proofs.Common.{◌∙◌, inl, inr, ⊎_elim, append-nil, arith, rules}
use Rattle.std.proofs.lemmas.List.{append_cancel_right}
use Rattle.upload_service.specs.declared.ask.Ask.{Ask}
use Rattle.upload_service.specs.declared.answer.Answer.{Answer}
use Rattle.upload_keeper.specs.Log.{TakenJob, Step, job_of, taken_by, jobs_of}
use Rattle.upload_keeper.specs.Seats.{SeatState, IsFresh}
use Rattle.upload_keeper.specs.Settled.{Heard}
use Rattle.upload_intake.specs.SeatConversations.{Adds, asks_of, answers_of, asks_in}
use Rattle.upload_intake.specs.Pools.ServedPool.{of_seat, asked_and_answered, read_and_replied, asks, Carries}
use Rattle.upload_wire.specs.Conversation.{WireExchange}

-- the jobs of a seat's steps ask what the steps ask
by_side : (b : Bool) (s : Step) (jobs : List TakenJob) (steps : List Step)
    → asks_in (map (λ (j : TakenJob). j.job) jobs) ≡ asks steps → asks_in (map (λ (j : TakenJob). j.job)
    (cond b (record { seat = s.seat; job = job_of s.exchange } ∷ jobs) jobs)) ≡ asks (cond b (s ∷ steps) steps)
by_side true s jobs steps e = ap (λ l. s.exchange.ask ∷ l) e
by_side false s jobs steps e = e

asks_of_jobs : (seat : ℕ) (steps : List Step) → asks_in (jobs_of seat (taken_by steps)) ≡ asks (of_seat seat steps)
asks_of_jobs seat [] = refl
asks_of_jobs seat (s ∷ ss) = search (rules, arith, by_side, asks_of_jobs seat ss)

-- steps that ask what these exchanges ask, and then more, and are answered as they are, and then more
record Matches (steps : List Step) (xs : List WireExchange) (us : List Ask) : Type 0 where
  unheard : List Step
  in_order : map asked_and_answered steps ≡ map read_and_replied xs ++ map asked_and_answered unheard
  lost : asks unheard ≡ us

never_empty : {A : Type 0} (x : A) (xs : List A) → [] ≡ x ∷ xs → ⊥
never_empty x xs e = cc

heads : {A : Type 0} (x y : A) (xs ys : List A) → x ∷ xs ≡ y ∷ ys → x ≡ y
heads x y xs ys e = cc

tails : {A : Type 0} (x y : A) (xs ys : List A) → x ∷ xs ≡ y ∷ ys → xs ≡ ys
tails x y xs ys e = cc

matched : (steps : List Step) (xs : List WireExchange) (us : List Ask) (vs : List Answer)
    → asks steps ≡ asks_of xs ++ us → map (λ (s : Step). s.exchange.answer) steps ≡ answers_of xs ++ vs
    → Matches steps xs us
matched steps [] us vs p q = record { unheard = steps; in_order = refl; lost = p }
matched [] (x ∷ xs) us vs p q = absurd (never_empty x.ask (asks_of xs ++ us) p)
matched (s ∷ ss) (x ∷ xs) us vs p q = search (rules, arith, heads, tails, matched ss xs us vs)

pub carries : (seat : ℕ) (steps : List Step) (old new : SeatState) (xs : List WireExchange) (us : List Ask)
    → IsFresh old → Adds old new xs us → jobs_of seat (taken_by steps) ≡ new.sent → Heard seat steps new
    → Carries seat steps xs us
carries seat steps old new xs us fresh a sent heard =
    let jobs : new.sent ≡ a.jobs = a.sent ∙ ap (λ l. l ++ a.jobs) fresh.sent in
    let asked : asks (of_seat seat steps) ≡ asks_in a.jobs = sym (asks_of_jobs seat steps) ∙ ap asks_in (sent ∙ jobs) in
    let replied : map (λ (s : Step). s.exchange.answer) (of_seat seat steps) ≡ answers_of xs ++ heard.unheard =
    heard.in_order ∙ ap (λ l. l ++ heard.unheard) (a.heard ∙ ap (λ l. l ++ answers_of xs) fresh.heard) in
    ⊎_elim
    (λ (none : a.unsent ≡ []).
    let all : asks (of_seat seat steps) ≡ asks_of xs ++ us =
    asked ∙ sym (append-nil (asks_in a.jobs)) ∙ ap (λ l. asks_in a.jobs ++ l) (sym none) ∙ sym a.asks in
    let m = matched (of_seat seat steps) xs us heard.unheard all replied in
    record { unheard = m.unheard; in_order = m.in_order; lost = inr m.lost })
    (λ (back : a.unsent ≡ us).
    let front : asks_of xs ≡ asks_in a.jobs =
    append_cancel_right (asks_of xs) (asks_in a.jobs) us (a.asks ∙ ap (λ l. asks_in a.jobs ++ l) back) in
    let m =
    matched (of_seat seat steps) xs [] heard.unheard (asked ∙ sym front ∙ sym (append-nil (asks_of xs))) replied in
    record { unheard = m.unheard; in_order = m.in_order; lost = inl m.lost })
    a.given_back
