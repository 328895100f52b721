-- A push that heard all from one worker heard it in the order in which it was served.
use Rattle.std.proofs.Common.{◌≡◌, ◌≢◌, ℕ, ◌<◌, Bool, true, false, List, [], ◌∷◌, ◌++◌, length, map, refl, sym, ap}
use Rattle.std.proofs.Common.{subst, ◌∙◌, append-nil, append_assoc, inl, inr, Option, Some, None, cond, arith, rules}
use Rattle.std.specs.Prelude.{◌==◌, ◌^◌}
use Rattle.std.specs.List.{AllByRecursion, flat_map}
use Rattle.std.proofs.lemmas.Bool.{eq-eqb, eqb-false}
use Rattle.upload_service.specs.Machine.{AreLawful, IsLawful}
use Rattle.upload_service.specs.declared.ask.Ask.{Ask}
use Rattle.upload_client.specs.declared.heard.Heard.{Heard}
use Rattle.upload_keeper.specs.Log.{Step}
use Rattle.upload_intake.specs.Pools.ServedPool.{Given, Left, IsServedPool, asked_and_answered, read_and_replied}
use Rattle.upload_intake.specs.Pools.Working.{Lending, Means, Lent, all_answered, answered_on, unanswered_on}
use Rattle.upload_push.specs.Slices.{Attempt, IsLawfulPush, IsSound, Push, log_of}
use Rattle.upload_push.proofs.Sound.{all_sound}
use Rattle.upload_push.proofs.Worth.{Laws}
use Rattle.upload_wire.specs.Conversation.{WireExchange}
use Rattle.upload_wire.proofs.Lists.{all_first, all_second}
use Rattle.wire_laws.specs.Joined.{AreJoined, AreUnanswered, TransportCall}
use Rattle.end_to_end.specs.Marks.{Mark, other, heard, unheard, mark_of, Marked, asked_and_told, heard_in}
use Rattle.end_to_end.specs.Marks.{steps_in}
use Rattle.end_to_end.specs.Network.{IsAccount, IsFor, IsInOrder, IsWhose, Whose, at_seat}
use Rattle.end_to_end.specs.Network.{marks_asked, marks_of, marks_on, unanswered_marks}
use Rattle.end_to_end.specs.OneWorker.{IsHeardFromOne, PushesToOneAreServed, asks_over, heard_over, told_in}
use Rattle.end_to_end.proofs.Asking.{body_small}
use Rattle.end_to_end.proofs.Seating.{AllFit, AreAnswered, IsAnswered, IsUnused, MarksAll, MarksOne, all_marked, items}
use Rattle.end_to_end.proofs.Seating.{joined_on, marks_in, unanswered_item}
use Rattle.end_to_end.proofs.Serving.{none_yet, pushes_served, seat_fits, seated, some_worker, told_at}

-- ---- what marks say was heard

heard_of : List Mark → List (Ask × Heard)
heard_of [] = []
heard_of (other ∷ ks) = heard_of ks
heard_of (heard ask what ∷ ks) = (ask, what) ∷ heard_of ks
heard_of (unheard ask ∷ ks) = heard_of ks

heard_both : (ks ls : List Mark) → heard_of (ks ++ ls) ≡ heard_of ks ++ heard_of ls
unfolding heard_of
heard_both [] ls = refl
heard_both (other ∷ ks) ls = heard_both ks ls
heard_both (heard ask what ∷ ks) ls = ap (λ l. (ask, what) ∷ l) (heard_both ks ls)
heard_both (unheard ask ∷ ks) ls = heard_both ks ls

heard_marks : (ms : List Marked) → heard_in ms ≡ heard_of (marks_in ms)
unfolding heard_of
heard_marks [] = refl
heard_marks ((step, other) ∷ ms) = heard_marks ms
heard_marks ((step, heard ask what) ∷ ms) = ap (λ l. (ask, what) ∷ l) (heard_marks ms)
heard_marks ((step, unheard ask) ∷ ms) = heard_marks ms

behind_mark : (k : Mark) (ks ls : List Mark) → heard_of ks ≡ heard_of ls → heard_of (k ∷ ks) ≡ heard_of (k ∷ ls)
unfolding heard_of
behind_mark k ks ls h = search (rules, arith)

none_second : {A : Type 0} (a b : List A) → a ++ b ≡ [] → b ≡ []
none_second [] b e = e
none_second (x ∷ a) b e = absurd (cc e)

-- ---- what a connection's asks heard

told_both : (xs ys : List TransportCall) → told_in (xs ++ ys) ≡ told_in xs ++ told_in ys
told_both [] ys = refl
told_both (x ∷ xs) ys = cc (append_assoc (asked_and_told x.ask x.heard) (told_in xs) (told_in ys), told_both xs ys)

mark_told : (ask : Ask) (what : Option Heard) (ks : List Mark)
    → heard_of (mark_of ask what ∷ ks) ≡ asked_and_told ask what ++ heard_of ks
unfolding heard_of
mark_told ask None ks = refl
mark_told ask (Some what) ks = refl

asks_told : (xs : List TransportCall) → heard_of (map (λ (x : TransportCall). mark_of x.ask x.heard) xs) ≡ told_in xs
unfolding heard_of
asks_told [] = refl
asks_told (x ∷ xs) = simp (mark_told, asks_told xs)

before_told : (xs asks : List TransportCall)
    → heard_of (map (λ (x : TransportCall). other) xs ++ map (λ (x : TransportCall). mark_of x.ask x.heard) asks)
    ≡ told_in asks
unfolding heard_of
before_told [] asks = asks_told asks
before_told (x ∷ xs) asks = before_told xs asks

-- ---- marks of a connection, and of what a worker read on it

unheard_one : (x : TransportCall) (k : Mark) (ks : List Mark) → MarksOne x k → x.heard ≡ None
    → heard_of (k ∷ ks) ≡ heard_of ks
unfolding heard_of
unheard_one x k ks (inl is) none = ap (λ l. heard_of (l ∷ ks)) is
unheard_one x k ks (inr is) none = cc (mark_told x.ask x.heard ks)

none_heard : (xs : List TransportCall) (ks : List Mark) (us : List Ask) → MarksAll xs ks → AreUnanswered xs us
    → heard_of ks ≡ []
unfolding heard_of
none_heard [] [] us marked none = refl
none_heard [] (k ∷ ks) us marked none = absurd marked
none_heard (x ∷ xs) [] us marked none = absurd marked
none_heard (x ∷ xs) (k ∷ ks) [] marked none =
    unheard_one x k ks marked.0 none.0 ∙ none_heard xs ks [] marked.1 none.1
none_heard (x ∷ xs) (k ∷ ks) (u ∷ us) marked none =
    cc (unheard_one x k ks marked.0 none.1, none_heard xs ks us marked.1 none.2)

none_left : (xs : List TransportCall) (ks : List Mark) (us : List Ask) → MarksAll xs ks → AreUnanswered xs us
    → heard_of (unanswered_marks ks us) ≡ []
unfolding heard_of
none_left xs ks [] marked none = refl
none_left [] ks (u ∷ us) marked none = absurd none
none_left (x ∷ xs) [] (u ∷ us) marked none = absurd marked
none_left (x ∷ xs) (k ∷ ks) (u ∷ us) marked none =
    cc (unheard_one x k (unanswered_marks ks us) marked.0 none.1, none_left xs ks us marked.1 none.2)

heard_on : (xs : List TransportCall) (ks : List Mark) (ys : List WireExchange) (us : List Ask) → MarksAll xs ks
    → AreJoined xs ys us → heard_of (marks_on ks ys us) ≡ heard_of ks
heard_on xs ks [] us marked joined = none_left xs ks us marked joined ∙ sym (none_heard xs ks us marked joined)
heard_on [] ks (y ∷ ys) us marked joined = absurd joined
heard_on (x ∷ xs) [] (y ∷ ys) us marked joined = absurd marked
heard_on (x ∷ xs) (k ∷ ks) (y ∷ ys) us marked joined =
    search (rules, arith, behind_mark, heard_on xs ks ys us marked.1 joined.2)

-- ---- what is left of marks behind the steps

unanswered_none : (us : List Ask) (ks : List Mark) → AllFit (map unanswered_item us) ks → heard_of ks ≡ []
unfolding heard_of
unanswered_none [] [] fit = refl
unanswered_none [] (k ∷ ks) fit = absurd fit
unanswered_none (u ∷ us) [] fit = absurd fit
unanswered_none (u ∷ us) (other ∷ ks) fit = unanswered_none us ks fit.1
unanswered_none (u ∷ us) (heard ask what ∷ ks) fit = absurd fit.0
unanswered_none (u ∷ us) (unheard ask ∷ ks) fit = unanswered_none us ks fit.1

left_unheard : (ms : List Marked) (ys : List WireExchange) (us : List Ask) (lost : List Step) (more : List Mark)
    → map asked_and_answered (steps_in ms) ≡ map read_and_replied ys ++ map asked_and_answered lost
    → AllFit (items ys us) (marks_in ms ++ more) → heard_of more ≡ []
left_unheard ms [] us lost more is fit = search (rules, arith, none_second, marks_in, heard_both, unanswered_none)
left_unheard [] (y ∷ ys) us lost more is fit = absurd (cc is)
left_unheard (n ∷ ms) (y ∷ ys) us lost more is fit = left_unheard ms ys us lost more (cc) fit.1

-- ---- steps of one seat among all

behind_step : (n : Marked) (ms ns : List Marked) → heard_in ms ≡ heard_in ns → heard_in (n ∷ ms) ≡ heard_in (n ∷ ns)
behind_step n ms ns = search (rules, arith)

unheard_step : (n : Marked) (ms ns : List Marked) → heard_in (n ∷ ms) ≡ [] → heard_in (n ∷ ns) ≡ heard_in ns
unheard_step n ms ns = search (rules, arith)

unheard_rest : (n : Marked) (ms : List Marked) → heard_in (n ∷ ms) ≡ [] → heard_in ms ≡ []
unheard_rest n ms = search (rules, arith)

without : (n : Marked) (ms : List Marked) (b : Bool) → heard_in (cond b (n ∷ ms) ms) ≡ [] → heard_in ms ≡ []
without n ms true none = unheard_rest n ms none
without n ms false none = none

only_at : (at number : ℕ) (ms : List Marked) → AllByRecursion (λ (n : Marked). n.0.seat < number) ms
    → ((seat : ℕ) → seat < number → seat ≢ at → heard_in (at_seat seat ms) ≡ [])
    → heard_in ms ≡ heard_in (at_seat at ms)
only_at at number [] inside none = refl
only_at at number (n ∷ ms) inside none =
    let rest : heard_in ms ≡ heard_in (at_seat at ms) =
    only_at at number ms inside.1
    (λ seat within apart. without n (at_seat seat ms) (seat == n.0.seat) (none seat within apart)) in
    elim (at == n.0.seat) as (λ b. (at == n.0.seat) ≡ b
    → heard_in (n ∷ ms) ≡ heard_in (cond b (n ∷ at_seat at ms) (at_seat at ms))) [
      | true ↦ λ is. behind_step n ms (at_seat at ms) rest
      | false ↦ λ is.
          let differs : n.0.seat ≢ at = λ same. eqb-false at n.0.seat is (sym same) in
          let here : heard_in (n ∷ at_seat n.0.seat ms) ≡ [] =
          subst (λ b. heard_in (cond b (n ∷ at_seat n.0.seat ms) (at_seat n.0.seat ms)) ≡ [])
          (eq-eqb n.0.seat n.0.seat refl) (none n.0.seat inside.0 differs) in
          unheard_step n (at_seat n.0.seat ms) ms here ∙ rest
    ] refl

-- ---- a push over one connection

module _ {L : Lending} {S G O : Type 0} (m : Means L S G O) (max : ℕ) (log : List Attempt) where
  others_left : (us : List Ask) → heard_of (unanswered_marks [] us) ≡ []
  unfolding heard_of
  others_left [] = refl
  others_left (u ∷ us) = others_left us

  others_on : (ys : List WireExchange) (us : List Ask) → heard_of (marks_on [] ys us) ≡ []
  unfolding heard_of
  others_on [] us = others_left us
  others_on (y ∷ ys) us = others_on ys us

  module _ (p : Push) (lawful : IsLawfulPush p) (is_for : IsFor max p) (small : max < 2 ^ 64)
      (sound : IsSound p log) where
    one_heard : (w : Whose m max log) → IsWhose m max log w → IsUnused m max w.0
        → AreAnswered (answered_on m max w.0) → heard_of (marks_of m max log w) ≡ told_in (asks_over m max log w)
    one_heard (t, None) is unused answered = others_on (answered_on m max t) (unanswered_on m max t)
    one_heard (t, Some c) is unused answered =
        heard_on (c.before ++ c.asks) (marks_asked c) (answered_on m max t) (unanswered_on m max t)
        (all_marked c.before c.asks) (joined_on m max p lawful is_for small log sound t c is unused answered)
        ∙ before_told c.before c.asks

    all_heard : (ws : List (Whose m max log)) → AllByRecursion (IsWhose m max log) ws
        → AllByRecursion (IsUnused m max) (map (λ (w : Whose m max log). w.0) ws)
        → AreAnswered (all_answered m max (map (λ (w : Whose m max log). w.0) ws))
        → heard_of (flat_map (marks_of m max log) ws) ≡ told_in (flat_map (asks_over m max log) ws)
    unfolding heard_of
    all_heard [] each unused answered = refl
    all_heard (w ∷ ws) each unused answered =
        search (
          rules,
          arith,
          IsAnswered,
          heard_both,
          one_heard,
          all_first,
          all_second,
          told_both,
          all_heard ws each.1 unused.1,
        )

module _ {L : Lending} {S G O M : Type 0} (m : Means L S G O) (tells : M → ℕ → M → Type 0)
    (given : Given M (Lent L S G O)) (left : Left M (Lent L S G O)) (pool : IsServedPool m tells given left)
    (p : Push) (log : List Attempt) (sound : IsSound p log) (account : IsAccount m tells given left pool p log)
    (laws : Laws) (lawful : IsLawful given.service) (limits : AreLawful given.service.limits)
    (lawful_push : IsLawfulPush p) (is_for : IsFor given.service.limits.max_body p)
    (one : IsHeardFromOne m tells given left pool p log account) where
  abbrev max : ℕ
  max = given.service.limits.max_body

  -- what the marks of a seat say was heard is what the push heard over the seat's connections
  heard_at : (seat : ℕ) (within : seat < length given.workers)
      → heard_in (at_seat seat account.marked)
      ≡ heard_over m tells given left pool p log account
      (account.seats seat (some_worker given.workers seat within) none_yet within).whose
  heard_at seat within =
      let told =
      told_at m tells given left pool p log sound account laws lawful limits lawful_push is_for seat within in
      let f = seat_fits m tells given left pool p log sound account laws lawful limits lawful_push is_for seat within in
      let ms = at_seat seat account.marked in
      heard_marks ms ∙ sym (append-nil (heard_of (marks_in ms)))
      ∙ ap (λ l. heard_of (marks_in ms) ++ l)
      (sym (left_unheard ms f.ys f.us f.lost told.unserved f.in_order f.fit))
      ∙ sym (heard_both (marks_in ms) told.unserved) ∙ ap heard_of (sym told.marks)
      ∙ all_heard m max log p lawful_push is_for (body_small given.service.limits limits) sound told.whose told.each
      f.unused f.answered

  pub in_order : IsInOrder m tells given left pool p log account
  in_order =
      only_at one.at (length given.workers) account.marked
      (seated m tells given left pool p log sound account laws lawful limits lawful_push is_for)
      (λ seat within apart. heard_at seat within
      ∙ one.elsewhere seat (some_worker given.workers seat within) none_yet within apart)
      ∙ heard_at one.at one.within ∙ one.here (some_worker given.workers one.at one.within) none_yet one.within

pub to_one_served : {L : Lending} {S G O M : Type 0} (m : Means L S G O) (tells : M → ℕ → M → Type 0) → Laws
    → PushesToOneAreServed m tells
to_one_served m tells laws = record {
  pushed =
      λ given left pool p told lawful limits lawful_push is_for ended account one.
      (pushes_served m tells laws).pushed given left pool p told lawful limits lawful_push is_for ended account
      (in_order m tells given left pool p (log_of p told) (all_sound p told lawful_push) account laws lawful limits
      lawful_push is_for one);
  already =
      λ given left pool p told lawful limits lawful_push is_for ended account one.
      (pushes_served m tells laws).already given left pool p told lawful limits lawful_push is_for ended account
      (in_order m tells given left pool p (log_of p told) (all_sound p told lawful_push) account laws lawful limits
      lawful_push is_for one);
}
