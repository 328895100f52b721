-- A push whose steps are marked in the run of a pool left its file there.
use Rattle.std.proofs.lemmas.Grind.{common_steps}
use Rattle.std.proofs.Common.{◌≡◌, ℕ, ◌<◌, Bool, true, false, List, [], ◌∷◌, ◌++◌, length, map, refl, sym, ap, subst}
use Rattle.std.proofs.Common.{◌∙◌, append_assoc, arith, inl, inr, ◌⊎◌, Option, rules}
use Rattle.std.specs.Prelude.{◌==◌, ◌^◌, IsTrue, get_or, ◌||◌, Ok}
use Rattle.std.specs.List.{AllByRecursion, flat_map}
use Rattle.std.proofs.lemmas.List.{map-append}
use Rattle.std.specs.FinSet as set
use Rattle.upload_names.specs.Digest.{Digest}
use Rattle.upload_service.specs.Machine.{State, effect, pairs_with, outcome, holds, Turn, AreLawful, IsLawful}
use Rattle.upload_service.specs.Run as served
use Rattle.upload_service.specs.Run.{NeverFall, Run}
use Rattle.upload_service.specs.Headline.{Headline}
use Rattle.upload_service.specs.Session.{received}
use Rattle.upload_service.proofs.Keeping.Tables.{contains-insert}
use Rattle.upload_keeper.specs.Log.{Step, exchanges_of}
use Rattle.upload_intake.specs.Pools.ServedPool.{Given, Left, HasPart, IsServedPool, asked_and_answered, of_seat}
use Rattle.upload_intake.specs.Pools.ServedPool.{asks, read_and_replied}
use Rattle.upload_service.specs.declared.ask.Ask.{Ask}
use Rattle.upload_wire.specs.Conversation.{WireExchange}
use Rattle.upload_intake.specs.Pools.Working.{Lending, Means, Lent, all_answered, all_unanswered}
use Rattle.upload_intake.specs.declared.work.WorkerEnd.{WorkerEnd}
use Rattle.upload_client.specs.declared.heard.Heard.{Heard}
use Rattle.upload_push.specs.Promise.{IsThere}
use Rattle.upload_push.specs.Runs.{AskedInRun}
use Rattle.upload_push.specs.Slices.{Push, IsLawfulPush, IsPush, IsSound, after_all, log_of}
use Rattle.upload_push.specs.Slices as push
use Rattle.upload_push.specs.declared.pusher.Outcome.TheVariants.{Pushed, Already}
use Rattle.upload_push.specs.declared.pusher.Phase.TheVariants.{Done}
use Rattle.upload_push.proofs.Ends.{there_by_pair}
use Rattle.upload_push.proofs.Sound.{all_sound, pushed_last}
use Rattle.upload_push.proofs.Turns.{turn_case, lawful_turn}
use Rattle.upload_push.proofs.Worth.{Laws, worth_in_run}
use Rattle.wire_laws.specs.WrittenExchanges.{HasSize}
use Rattle.upload_wire.proofs.Lists.{all_first, all_mapped, all_second, all_weaker}
use Rattle.end_to_end.specs.Marks.{other, heard, unheard, Marked, steps_in, exchanges_in, Agrees, IsFair}
use Rattle.end_to_end.specs.Network.{marks_of, IsAccount, IsFor, IsFoundThere, IsInOrder, IsLeftThere, IsMarkedBy}
use Rattle.end_to_end.specs.Network.{PushesAreServed, Whose, at_seat}
use Rattle.end_to_end.proofs.Asking.{body_small}
use Rattle.end_to_end.proofs.Placing.{Placed, placed}
use Rattle.end_to_end.proofs.Closing.{IsClosedBy, closed_by, never_fall_front, whole_upload}
use Rattle.end_to_end.proofs.Seating.{IsUnused, all_unused, IsAnswered, AreAnswered, IsOwnMark, all_kept}
use Rattle.end_to_end.proofs.Seating.{steps_answered, items_on, items_are, all_fit, all_own, seat_agrees}
use Rattle.end_to_end.proofs.Seating.{steps_at, by_seats, marks_in, items, AllFit}
use Rattle.end_to_end.proofs.Typing.{secrets_of, sizes_of}

-- ---- what is stored stays

or_right : (a b : Bool) → IsTrue b → IsTrue (a || b)
or_right true b is = refl
or_right false b is = is

held_with : (s : State) (pair : Option (List ℕ × Digest)) (name : List ℕ) (digest : Digest)
    → IsTrue (holds s name digest) → IsTrue (set.contains (pairs_with s.pairs pair) (name, digest))
held_with s pair name digest h = search (rules, arith, contains-insert, or_right)

held_by_turn : (s : State) (x : served.Exchange) (t : State) (name : List ℕ) (digest : Digest)
    → Turn s x.ask x.secret x.now x.answer t → IsTrue (holds s name digest) → IsTrue (holds t name digest)
held_by_turn s x t name digest turn held =
    turn_case (λ a u. IsTrue (holds u name digest)) s x.ask x.secret x.now x.answer t
    (λ a u comes. elim comes [
      | inl c ↦ subst (λ (v : State). IsTrue (holds v name digest)) (sym c.1)
          (held_with s (effect (outcome s x.ask x.secret x.now)).pair name digest held)
      | inr c ↦ subst (λ (v : State). IsTrue (holds v name digest)) (sym c.2) held
    ]) turn

pub held_by_run : (s : State) (xs : List served.Exchange) (t : State) (name : List ℕ) (digest : Digest) → Run s xs t
    → IsTrue (holds s name digest) → IsTrue (holds t name digest)
held_by_run s [] t name digest run held = subst (λ (v : State). IsTrue (holds v name digest)) (sym run) held
held_by_run s (x ∷ xs) t name digest run held =
    simp (held_by_turn, held_by_run run.0 xs t name digest run.2 (held_by_turn s x run.0 name digest run.1 held))

limits_by_turn : (s : State) (x : served.Exchange) (t : State) → Turn s x.ask x.secret x.now x.answer t
    → t.limits ≡ s.limits
limits_by_turn s x t turn =
    turn_case (λ a u. u.limits ≡ s.limits) s x.ask x.secret x.now x.answer t
    (λ a u comes. elim comes [
      | inl c ↦ ap (λ (v : State). v.limits) c.1
      | inr c ↦ ap (λ (v : State). v.limits) c.2
    ]) turn

pub lawful_by_run : Laws → (s : State) (xs : List served.Exchange) (t : State) → IsLawful s → Run s xs t → IsLawful t
lawful_by_run laws s [] t lawful run = subst IsLawful (sym run) lawful
lawful_by_run laws s (x ∷ xs) t lawful run =
    lawful_by_run laws run.0 xs t (lawful_turn laws.headline s x.ask x.secret x.now x.answer run.0 lawful run.1) run.2

-- ---- each step answered in a lawful state

pub steps_lawful : Laws → (s : State) (ss : List Step) (t : State) → IsLawful s → AreLawful s.limits
    → Run s (exchanges_of ss) t → AllByRecursion (λ (x : Step). HasSize x.exchange.answer) ss
    → AllByRecursion (λ (x : Step). IsAnswered x.exchange.ask x.exchange.answer) ss
steps_lawful laws s [] t lawful limits run sizes = tt
steps_lawful laws s (step ∷ ss) t lawful limits run sizes =
    let x = step.exchange in (
      record {
        state = s;
        secret = x.secret;
        now = x.now;
        after = run.0;
        lawful = lawful;
        limits = limits;
        turn = run.1;
        sized = sizes.0;
      },
      steps_lawful laws run.0 ss t (lawful_turn laws.headline s x.ask x.secret x.now x.answer run.0 lawful run.1)
          (subst AreLawful (sym (limits_by_turn s x run.0 run.1)) limits) run.2 sizes.1,
    )

-- ---- marks of the push's own requests are fair

fair : (p : Push) (n : Marked) → IsOwnMark p n.1 → IsFair p n
fair p (step, other) own = tt
fair p (step, heard ask what) own = own
fair p (step, unheard ask) own = own

pub exchanges_are : (ms : List Marked) → exchanges_in ms ≡ exchanges_of (steps_in ms)
exchanges_are [] = refl
exchanges_are (m ∷ ms) = ap (λ l. m.0.exchange ∷ l) (exchanges_are ms)

-- ---- the whole

pub some_worker : {W : Type 0} (ws : List W) (seat : ℕ) → seat < length ws → W
some_worker [] seat within = absurd (omega (arith, within))
some_worker (w ∷ ws) seat within = w

pub none_yet : WorkerEnd
none_yet = record { conns = 0; clean = 0 }

module _ {L : Lending} {S G O M : Type 0} (m : Means L S G O) (tells : M → ℕ → M → Type 0)
    (given : Given M (Lent L S G O)) (left : Left M (Lent L S G O)) (pool : IsServedPool m tells given left)
    (p : Push) (log : List push.Attempt) (sound : IsSound p log) (account : IsAccount m tells given left pool p log)
    (laws : Laws) (lawful : IsLawful given.service) (limits : AreLawful given.service.limits)
    (lawful_push : IsLawfulPush p) (is_for : IsFor given.service.limits.max_body p) where
  abbrev max : ℕ
  max = given.service.limits.max_body

  small : max < 2 ^ 64
  small = body_small given.service.limits limits

  run : Run given.service (exchanges_in account.marked) left.service
  run = search (rules, arith, exchanges_are)

  all_answered_steps : AllByRecursion (λ (x : Step). IsAnswered x.exchange.ask x.exchange.answer)
      (steps_in account.marked)
  all_answered_steps = search (rules, arith, IsAnswered, steps_lawful, sizes_of)

  -- whose the connections of a seat are
  abbrev pub told_at : (seat : ℕ) (within : seat < length given.workers)
      → IsMarkedBy m max log (pool.parts seat (some_worker given.workers seat within) none_yet within).worked.talks
      (at_seat seat account.marked)
  told_at seat within = account.seats seat (some_worker given.workers seat within) none_yet within

  -- what is known of the marks of a seat
  pub record SeatFits (seat : ℕ) (within : seat < length given.workers) : Type 0 where
    pub ys : List WireExchange
    pub us : List Ask
    pub lost : List Step
    pub in_order : map asked_and_answered (steps_in (at_seat seat account.marked))
        ≡ map read_and_replied ys ++ map asked_and_answered lost
    pub left_out : (asks lost ≡ []) ⊎ (asks lost ≡ us)
    pub unused : AllByRecursion (IsUnused m max) (map (λ (w : Whose m max log). w.0) (told_at seat within).whose)
    pub answered : AreAnswered (all_answered m max (map (λ (w : Whose m max log). w.0) (told_at seat within).whose))
    pub fit : AllFit (items ys us) (marks_in (at_seat seat account.marked) ++ (told_at seat within).unserved)

  pub seat_fits : (seat : ℕ) (within : seat < length given.workers) → SeatFits seat within
  seat_fits seat within =
      let worker : Lent L S G O = some_worker given.workers seat within in
      let part : HasPart m max seat pool.steps (record {
        lent = get_or given.workers seat worker;
        back = get_or left.workers seat worker;
        end = get_or left.ends seat none_yet;
      }) =
      pool.parts seat worker none_yet within in
      let told = told_at seat within in
      let ms : List Marked = at_seat seat account.marked in
      let in_order = ap (map asked_and_answered) (ap (of_seat seat) account.all) ∙ part.carried.in_order in
      let answered : AreAnswered (all_answered m max part.worked.talks) =
      steps_answered (of_seat seat (steps_in account.marked)) (all_answered m max part.worked.talks)
      part.carried.unheard in_order
      (all_kept (λ (x : Step). IsAnswered x.exchange.ask x.exchange.answer) (λ (x : Step). seat == x.seat)
      (steps_in account.marked) all_answered_steps) in
      let unused = all_unused m max account.unused _ _ _ _ part.worked.talks part.worked.served in
      let unused_here = subst (AllByRecursion (IsUnused m max)) (sym told.talks_are) unused in
      let answered_here = subst (λ ts. AreAnswered (all_answered m max ts)) (sym told.talks_are) answered in
      let fit0 =
      all_fit m max p lawful_push is_for small log sound told.whose told.each unused_here answered_here in
      let fit1 =
      subst (λ ts. AllFit (flat_map (items_on m max) ts) (flat_map (marks_of m max log) told.whose))
      told.talks_are fit0 in
      let fit2 =
      subst (λ is. AllFit is (flat_map (marks_of m max log) told.whose))
      (items_are m max _ _ _ _ part.worked.talks part.worked.served) fit1 in
      let fit : AllFit (items (all_answered m max part.worked.talks) (all_unanswered m max part.worked.talks))
      (marks_in ms ++ told.unserved) =
      subst (λ ks. AllFit (items (all_answered m max part.worked.talks) (all_unanswered m max part.worked.talks)) ks)
      told.marks fit2 in
      record {
        ys = all_answered m max part.worked.talks;
        us = all_unanswered m max part.worked.talks;
        lost = part.carried.unheard;
        in_order = ap (map asked_and_answered) (steps_at seat account.marked) ∙ in_order;
        left_out = part.carried.lost;
        unused = unused_here;
        answered = answered_here;
        fit = fit;
      }

  seat_is : (seat : ℕ) → seat < length given.workers
      → AllByRecursion Agrees (at_seat seat account.marked)
      × AllByRecursion (λ (n : Marked). IsOwnMark p n.1) (at_seat seat account.marked)
  seat_is seat within =
      let f = seat_fits seat within in
      let told = told_at seat within in
      let ms : List Marked = at_seat seat account.marked in
      let own0 =
      subst (AllByRecursion (IsOwnMark p)) told.marks
      (all_own m max p lawful_push is_for small log sound told.whose told.each) in (
        seat_agrees ms f.ys f.us f.lost told.unserved f.in_order f.left_out f.fit,
        all_mapped (IsOwnMark p) (λ (n : Marked). n.1) ms
            (all_first (IsOwnMark p) (marks_in ms) told.unserved own0),
      )

  pub seated : AllByRecursion (λ (n : Marked). n.0.seat < length given.workers) account.marked
  seated = search (rules, arith, all_mapped)

  pub agree : AllByRecursion Agrees account.marked
  agree = by_seats Agrees (length given.workers) account.marked seated (λ seat within. (seat_is seat within).0)

  own : AllByRecursion (λ (n : Marked). IsOwnMark p n.1) account.marked
  own =
      by_seats (λ (n : Marked). IsOwnMark p n.1) (length given.workers) account.marked seated
      (λ seat within. (seat_is seat within).1)

  pub in_place : IsInOrder m tells given left pool p log account
      → Placed p given.service log account.marked left.service
  in_place order = search (rules, arith, placed, run, agree, all_weaker, fair, own, secrets_of)

module _ {L : Lending} {S G O M : Type 0} (m : Means L S G O) (tells : M → ℕ → M → Type 0) (laws : Laws)
    (given : Given M (Lent L S G O)) (left : Left M (Lent L S G O)) (pool : IsServedPool m tells given left)
    (p : Push) (told : List (Option Heard)) (lawful : IsLawful given.service) (limits : AreLawful given.service.limits)
    (lawful_push : IsLawfulPush p) (is_for : IsFor given.service.limits.max_body p)
    (account : IsAccount m tells given left pool p (log_of p told))
    (order : IsInOrder m tells given left pool p (log_of p told) account) where
  at : Placed p given.service (log_of p told) account.marked left.service
  at = search (rules, arith, in_place, all_sound)

  first : Run given.service (exchanges_of (steps_in at.front)) at.mid
  first = subst (λ xs. Run given.service xs at.mid) (exchanges_are at.front) at.first

  second : Run at.mid (exchanges_of (steps_in at.back)) left.service
  second = subst (λ xs. Run at.mid xs left.service) (exchanges_are at.back) at.second

  split : pool.steps ≡ steps_in at.front ++ steps_in at.back
  split = sym account.all ∙ ap steps_in at.split ∙ map-append (λ (m : Marked). m.0) at.front at.back

  -- what the repository has at some step it has at the end
  there : IsTrue (holds at.mid p.name p.digest) → IsThere p left.service
  there held = search (rules, arith, there_by_pair, lawful_by_run, held_by_run, second)

  agrees_front : AllByRecursion Agrees at.front
  agrees_front =
      all_first Agrees at.front at.back (subst (AllByRecursion Agrees) at.split
      (agree m tells given left pool p (log_of p told) (all_sound p told lawful_push) account laws lawful limits
      lawful_push is_for))

  moments_front : NeverFall (exchanges_of (steps_in at.front))
  moments_front = search (rules, arith, never_fall_front, split, map-append)

  -- the steps up to the close are those that the last reply was heard behind
  steps_of_close : (c : IsClosedBy p at.front) → steps_in at.front ≡ steps_in c.earlier ++ c.step ∷ []
  steps_of_close c = search (rules, arith, map-append)

  exchanges_of_close : (c : IsClosedBy p at.front)
      → exchanges_of (steps_in c.earlier ++ c.step ∷ []) ≡ exchanges_of (steps_in c.earlier) ++ c.step.exchange ∷ []
  exchanges_of_close c = map-append (λ (s : Step). s.exchange) (steps_in c.earlier) (c.step ∷ [])

  agrees_close : (c : IsClosedBy p at.front) → Agrees (c.step, heard c.ask c.what)
  agrees_close c =
      (all_second Agrees c.earlier ((c.step, heard c.ask c.what) ∷ [])
      (subst (AllByRecursion Agrees) c.split agrees_front)).0

  headline_of_close : (c : IsClosedBy p at.front)
      → Headline given.service (exchanges_of (steps_in c.earlier) ++ c.step.exchange ∷ []) at.mid
  headline_of_close c = grind (arith, common_steps, steps_of_close, exchanges_of_close, moments_front, first)

  left_there : (after_all p told).phase ≡ Done Pushed → IsLeftThere p given.service pool.steps left.service
  left_there ended =
      let over : IsPush AskedInRun p given.service at.mid (Ok Pushed) =
      record { heard = told; leads = at.leads; ends = ended } in
      let stored =
      (worth_in_run laws p given.service at.mid (Ok Pushed) lawful_push lawful over).pushed refl at.quiet in
      let c = closed_by p (log_of p told) at.front (all_sound p told lawful_push) (pushed_last p told ended) at.last in
      let agrees = agrees_close c in
      let asked = agrees.0 ∙ c.asked in
      let whole =
      whole_upload p given.service (exchanges_of (steps_in c.earlier)) c.step.exchange at.mid c.upload c.what
      (headline_of_close c) asked agrees.1 c.is_created stored in
      record {
        before = steps_in c.earlier;
        close = c.step;
        after = steps_in at.back;
        split =
            split ∙ ap (λ ss. ss ++ steps_in at.back) (steps_of_close c)
            ∙ append_assoc (steps_in c.earlier) (c.step ∷ []) (steps_in at.back);
        upload = c.upload;
        asked = asked;
        answered = whole.answered;
        received_all = ap (λ xs. received given.service xs c.upload) (exchanges_of_close c) ∙ whole.received_all;
        at = at.mid;
        first = subst (λ ss. Run given.service (exchanges_of ss) at.mid) (steps_of_close c) first;
        stored = stored;
        second = second;
        there = there stored.pair;
      }

  found_there : (after_all p told).phase ≡ Done Already → IsFoundThere p given.service pool.steps left.service
  found_there ended =
      let over : IsPush AskedInRun p given.service at.mid (Ok Already) =
      record { heard = told; leads = at.leads; ends = ended } in
      let found = (worth_in_run laws p given.service at.mid (Ok Already) lawful_push lawful over).already refl in
      record {
        before = steps_in at.front;
        after = steps_in at.back;
        split = split;
        at = at.mid;
        first = first;
        found = found;
        second = second;
        there = there found.pair;
      }

pub pushes_served : {L : Lending} {S G O M : Type 0} (m : Means L S G O) (tells : M → ℕ → M → Type 0) → Laws
    → PushesAreServed m tells
pushes_served m tells laws = search (rules, arith, left_there, found_there)
