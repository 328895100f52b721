-- What a client found over a connection to a pool was there at some step.
use Rattle.std.proofs.Common.{◌≡◌, ℕ, ◌<◌, ◌⊎◌, Bool, true, List, [], ◌∷◌, ◌++◌, length, map, filter, refl, sym}
use Rattle.std.proofs.Common.{ap, subst, ◌∙◌, append_assoc, inl, inr, Some, get_or, arith, rules}
use Rattle.std.proofs.lemmas.List.{map-append}
use Rattle.std.proofs.lemmas.Option.{none-some}
use Rattle.std.specs.Prelude.{◌==◌}
use Rattle.std.specs.List.{AllByRecursion, flat_map}
use Rattle.upload_service.specs.Machine.{AreLawful, IsLawful, Turn}
use Rattle.upload_service.specs.Run.{Run}
use Rattle.upload_service.specs.declared.ask.Ask.{Ask}
use Rattle.upload_service.specs.declared.ask.Ask.TheVariants.{Has}
use Rattle.upload_service.specs.declared.answer.Answer.{Answer}
use Rattle.upload_client.specs.declared.heard.Heard.{Heard}
use Rattle.upload_keeper.specs.Log.{Step, exchanges_of}
use Rattle.upload_intake.specs.Pools.ServedPool.{Given, Left, HasPart, IsServedPool, asked_and_answered, of_seat}
use Rattle.upload_intake.specs.Pools.ServedPool.{read_and_replied}
use Rattle.upload_intake.specs.Pools.Working.{Lending, Means, Lent, Talk, all_answered, answered_on}
use Rattle.upload_intake.specs.Pools.Working.{connection_given, connection_left, steps, unanswered_on}
use Rattle.upload_intake.specs.Transcripts.{GivesUnused}
use Rattle.upload_intake.specs.declared.work.WorkerEnd.{WorkerEnd}
use Rattle.upload_push.specs.Runs.{IsHeardOf}
use Rattle.upload_push.specs.Slices.{Push}
use Rattle.upload_push.proofs.Ends.{head_finds_pair, there_by_pair}
use Rattle.upload_push.proofs.Worth.{Laws}
use Rattle.upload_wire.specs.Conversation.{WireExchange}
use Rattle.upload_wire.proofs.Lists.{all_first, all_second}
use Rattle.wire_laws.specs.Joined.{AreJoined, AreUnanswered, TransportCall}
use Rattle.wire_laws.specs.WrittenExchanges.{MayBeAsked}
use Rattle.wire_laws.proofs.JoinedEnds.{connections_joined}
use Rattle.end_to_end.specs.Looks.{IsFoundOver, IsOneOfWorker, LooksAreServed}
use Rattle.end_to_end.specs.Network.{Connection, IsFoundThere}
use Rattle.end_to_end.proofs.Asking.{all_may_be_asked, body_small}
use Rattle.end_to_end.proofs.Closing.{status_told}
use Rattle.end_to_end.proofs.Placing.{join_runs}
use Rattle.end_to_end.proofs.Seating.{AreAnswered, IsAnswered, IsUnused, all_audible, all_kept, all_unused}
use Rattle.end_to_end.proofs.Seating.{steps_answered}
use Rattle.end_to_end.proofs.Serving.{held_by_run, lawful_by_run, steps_lawful}
use Rattle.end_to_end.proofs.Typing.{sizes_of}

-- ---- one of a list

abbrev OneOf : {A : Type 0} → (A → Type 0) → List A → Type 0
OneOf P [] = ⊥
OneOf P (x ∷ xs) = P x ⊎ OneOf P xs

one_first : {A : Type 0} (P : A → Type 0) (xs ys : List A) → OneOf P xs → OneOf P (xs ++ ys)
one_first P [] ys one = absurd one
one_first P (x ∷ xs) ys (inl is) = inl is
one_first P (x ∷ xs) ys (inr one) = inr (one_first P xs ys one)

one_second : {A : Type 0} (P : A → Type 0) (xs ys : List A) → OneOf P ys → OneOf P (xs ++ ys)
one_second P [] ys one = one
one_second P (x ∷ xs) ys one = inr (one_second P xs ys one)

one_mapped : {A B : Type 0} (P : B → Type 0) (f : A → B) (xs : List A) → OneOf (λ x. P (f x)) xs → OneOf P (map f xs)
one_mapped P f [] one = absurd one
one_mapped P f (x ∷ xs) (inl is) = inl is
one_mapped P f (x ∷ xs) (inr one) = inr (one_mapped P f xs one)

one_before_map : {A B : Type 0} (P : B → Type 0) (f : A → B) (xs : List A) → OneOf P (map f xs)
    → OneOf (λ x. P (f x)) xs
one_before_map P f [] one = absurd one
one_before_map P f (x ∷ xs) (inl is) = inl is
one_before_map P f (x ∷ xs) (inr one) = inr (one_before_map P f xs one)

one_kept : {A : Type 0} (P : A → Type 0) (test : A → Bool) (xs : List A) → OneOf P (filter test xs) → OneOf P xs
one_kept P test [] one = absurd one
one_kept P test (x ∷ xs) one = search (rules, arith, one_kept P test xs)

-- the same around it
record Found (A : Type 0) (P : A → Type 0) (xs : List A) : Type 0 where
  before : List A
  it : A
  after : List A
  split : xs ≡ before ++ it ∷ after
  is : P it

found : {A : Type 0} (P : A → Type 0) (xs : List A) → OneOf P xs → Found A P xs
found P [] one = absurd one
found P (x ∷ xs) (inl is) = record { before = []; it = x; after = xs; split = refl; is = is }
found P (x ∷ xs) (inr one) =
    let more = found P xs one in
    record {
      before = x ∷ more.before;
      it = more.it;
      after = more.after;
      split = ap (λ l. x ∷ l) more.split;
      is = more.is;
    }

-- ---- one connection of a worker among all

module _ {A B : Type 0} (f : A → List B) (P : B → Type 0) where
  all_at : (xs ys : List A) (x : A) → AllByRecursion P (flat_map f (xs ++ x ∷ ys)) → AllByRecursion P (f x)
  all_at [] ys x all = all_first P (f x) (flat_map f ys) all
  all_at (y ∷ xs) ys x all = all_at xs ys x (all_second P (f y) (flat_map f (xs ++ x ∷ ys)) all)

  one_at : (xs ys : List A) (x : A) → OneOf P (f x) → OneOf P (flat_map f (xs ++ x ∷ ys))
  one_at [] ys x one = one_first P (f x) (flat_map f ys) one
  one_at (y ∷ xs) ys x one = one_second P (f y) (flat_map f (xs ++ x ∷ ys)) (one_at xs ys x one)

-- ---- what was heard is what one of the answers says

-- this exchange answers this ask, and this was heard of it
abbrev Answers : Ask → Heard → Ask × Answer → Type 0
Answers ask heard it = (it.0 ≡ ask) × IsHeardOf it.1 (Some heard)

nothing_heard : (xs ys : List TransportCall) (ask : Ask) (heard : Heard) (us : List Ask)
    → AreUnanswered (xs ++ record { ask = ask; heard = Some heard } ∷ ys) us → ⊥
nothing_heard [] ys ask heard [] none = absurd (none-some heard (sym none.0))
nothing_heard [] ys ask heard (u ∷ us) none = absurd (none-some heard (sym none.1))
nothing_heard (x ∷ xs) ys ask heard [] none = nothing_heard xs ys ask heard [] none.1
nothing_heard (x ∷ xs) ys ask heard (u ∷ us) none = nothing_heard xs ys ask heard us none.2

answered_in : (xs ys : List TransportCall) (ask : Ask) (heard : Heard) (zs : List WireExchange) (us : List Ask)
    → AreJoined (xs ++ record { ask = ask; heard = Some heard } ∷ ys) zs us
    → OneOf (λ z. Answers ask heard (read_and_replied z)) zs
answered_in xs ys ask heard [] us joined = absurd (nothing_heard xs ys ask heard us joined)
answered_in [] ys ask heard (z ∷ zs) us joined = inl (joined.0, joined.1)
answered_in (x ∷ xs) ys ask heard (z ∷ zs) us joined = inr (answered_in xs ys ask heard zs us joined.2)

-- ---- the step

module _ {L : Lending} {S G O M : Type 0} (m : Means L S G O) (tells : M → ℕ → M → Type 0) (laws : Laws)
    (given : Given M (Lent L S G O)) (left : Left M (Lent L S G O)) (pool : IsServedPool m tells given left)
    (p : Push) (lawful : IsLawful given.service) (limits : AreLawful given.service.limits) (unused : GivesUnused L)
    (seat : ℕ) (worker : Lent L S G O) (end : WorkerEnd) (within : seat < length given.workers)
    (earlier later : List (Talk m given.service.limits.max_body)) (t : Talk m given.service.limits.max_body)
    (split : (pool.parts seat worker end within).worked.talks ≡ earlier ++ t ∷ later)
    (c : Connection) (one : IsOneOfWorker m given.service.limits.max_body t c)
    (seen : IsFoundOver p.name p.digest c) where
  abbrev max : ℕ
  max = given.service.limits.max_body

  abbrev part : HasPart m max seat pool.steps (record {
    lent = get_or given.workers seat worker;
    back = get_or left.workers seat worker;
    end = get_or left.ends seat end;
  })
  part = pool.parts seat worker end within

  abbrev talks : List (Talk m max)
  talks = part.worked.talks

  abbrev asked : List TransportCall
  asked = c.before ++ c.asks

  may : AllByRecursion (λ x. MayBeAsked max x.ask c.made.host) asked
  may = all_may_be_asked max (body_small given.service.limits limits) c.made.host one.to_host asked one.writable

  -- each step was answered by a lawful service
  steps_are : AllByRecursion (λ (x : Step). IsAnswered x.exchange.ask x.exchange.answer) pool.steps
  steps_are = search (rules, arith, steps_lawful, sizes_of)

  answered : AreAnswered (answered_on m max t)
  answered =
      all_at (answered_on m max) (λ (y : WireExchange). IsAnswered y.ask y.answer) earlier later t
      (subst (λ ts. AreAnswered (all_answered m max ts)) split
      (steps_answered (of_seat seat pool.steps) (all_answered m max talks) part.carried.unheard part.carried.in_order
      (all_kept (λ (x : Step). IsAnswered x.exchange.ask x.exchange.answer) (λ (x : Step). seat == x.seat) pool.steps
      steps_are)))

  is_new : IsUnused m max t
  is_new = grind (arith, all_second, IsUnused, all_unused)

  joined : AreJoined asked (answered_on m max t) (unanswered_on m max t)
  joined =
      connections_joined (steps m max) max (connection_given m max t) (connection_left m max t) t.end t.conversation
      asked
      (record {
        given = is_new.0;
        taken = is_new.1;
        audible = all_audible max c.made.host asked (answered_on m max t) may one.no_gets answered;
      })
      c.made c.left c.is_new c.turn may one.carries

  abbrev Finds : Ask × Answer → Type 0
  Finds = Answers (Has p.name p.digest true) seen.heard

  -- the step at which the look was answered
  step : Found Step (λ s. Finds (asked_and_answered s)) pool.steps
  step =
      let here =
      answered_in seen.earlier seen.later (Has p.name p.digest true) seen.heard (answered_on m max t)
      (unanswered_on m max t)
      (subst (λ xs. AreJoined xs (answered_on m max t) (unanswered_on m max t)) seen.split joined) in
      let all =
      subst (λ ts. OneOf (λ z. Finds (read_and_replied z)) (all_answered m max ts)) (sym split)
      (one_at (answered_on m max) (λ z. Finds (read_and_replied z)) earlier later t here) in
      let told =
      one_first Finds (map read_and_replied (all_answered m max talks)) (map asked_and_answered part.carried.unheard)
      (one_mapped Finds read_and_replied (all_answered m max talks) all) in
      let at_seat =
      one_before_map Finds asked_and_answered (of_seat seat pool.steps)
      (subst (OneOf Finds) (sym part.carried.in_order) told) in
      found (λ s. Finds (asked_and_answered s)) pool.steps
      (one_kept (λ s. Finds (asked_and_answered s)) (λ (x : Step). seat == x.seat) pool.steps at_seat)

  abbrev front : List Step
  front = step.before ++ step.it ∷ []

  is_there : IsFoundThere p given.service pool.steps left.service
  is_there =
      let steps_are = step.split ∙ sym (append_assoc step.before (step.it ∷ []) step.after) in
      let exchanges = ap exchanges_of step.split
      ∙ map-append (λ (s : Step). s.exchange) step.before (step.it ∷ step.after) in
      let at =
      pool.served.headline.each (exchanges_of step.before) step.it.exchange (exchanges_of step.after) exchanges in
      let turn = subst (λ a. Turn at.0 a step.it.exchange.secret step.it.exchange.now step.it.exchange.answer at.1)
      step.is.0 at.3 in
      let held =
      head_finds_pair p at.0 step.it.exchange.now step.it.exchange.secret step.it.exchange.answer at.1 turn
      (status_told step.it.exchange.answer seen.heard 200 step.is.1 seen.is_found) in
      let first : Run given.service (exchanges_of front) at.1 =
      subst (λ xs. Run given.service xs at.1) (sym (map-append (λ (s : Step). s.exchange) step.before (step.it ∷ [])))
      (join_runs given.service (exchanges_of step.before) (step.it.exchange ∷ []) at.0 at.1 at.2 (at.1, at.3, refl)) in
      record {
        before = front;
        after = step.after;
        split = steps_are;
        at = at.1;
        first = first;
        found = there_by_pair p at.1 (lawful_by_run laws given.service (exchanges_of front) at.1 lawful first) held;
        second = at.4;
        there =
            there_by_pair p left.service
            (lawful_by_run laws given.service (exchanges_of pool.steps) left.service lawful pool.served.run)
            (held_by_run at.1 (exchanges_of step.after) left.service p.name p.digest at.4 held);
      }

pub looks_served : {L : Lending} {S G O M : Type 0} (m : Means L S G O) (tells : M → ℕ → M → Type 0) → Laws
    → LooksAreServed m tells
looks_served m tells laws = search (rules, arith, is_there)
