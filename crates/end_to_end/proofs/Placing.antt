-- A push in a run whose steps are marked: each request that was heard is a turn, and what is served between two of them
-- leaves its upload.
use Rattle.std.proofs.Common.{◌≡◌, ℕ, List, [], ◌∷◌, ◌++◌, refl, sym, ap, subst, ◌∙◌, append-nil, append_assoc, inl}
use Rattle.std.proofs.Common.{inr, Option, Some, None, arith, length, length-append, rules}
use Rattle.std.specs.List.{AllByRecursion}
use Rattle.std.proofs.lemmas.List.{map-append}
use Rattle.upload_service.specs.Machine.{State, Turn, same}
use Rattle.upload_service.specs.Run as served
use Rattle.upload_service.specs.Run.{Run}
use Rattle.upload_service.specs.Session.{carries}
use Rattle.upload_service.specs.UploadView.{upload_view}
use Rattle.upload_service.specs.declared.ask.Ask.{Ask}
use Rattle.upload_service.specs.declared.ask.Ask.TheVariants as asks
use Rattle.upload_service.specs.declared.ask.Extent.TheVariants.{Absent, Given}
use Rattle.upload_client.specs.declared.heard.Heard.{Heard}
use Rattle.upload_keeper.specs.Log.{Step}
use Rattle.upload_push.specs.Promise.{Avoids}
use Rattle.upload_push.specs.Runs.{AskedInRun, IsHeardOf, IsRequestOf, IsHarmless, AreHarmless, IsQuietRun}
use Rattle.upload_push.specs.Slices.{Push, Attempt, IsSoundAsk, Leads, heard_offset, heard_place, place_after}
use Rattle.upload_push.proofs.Turns.{None≢Some}
use Rattle.upload_push.proofs.Uploads.{part_of_next}
use Rattle.upload_push.proofs.Requests.{by_sound}
use Rattle.upload_service.proofs.Keeping.Tables.{one_or_two, same_from_ne}
use Rattle.upload_wire.proofs.Lists.{all_first, all_second, none_before}
use Rattle.end_to_end.specs.Marks.{other, heard, unheard, Marked, exchanges_in, asked_and_told, heard_in, heard_by}
use Rattle.end_to_end.specs.Marks.{Agrees}
use Rattle.end_to_end.specs.Marks.{IsFair, AreApart}
use Rattle.end_to_end.proofs.Typing.{HasSecret}

-- ---- late requests of the push

by_reference : (p : Push) (at : List ℕ) (ask : Ask) (to : List ℕ) → carries at ask ≡ same at to
    → (to ≡ at → IsRequestOf p at (upload_view ask)) → IsHarmless p (Some at) ask
by_reference p at ask to is own =
    elim (one_or_two at to) [
      | inl e ↦ inr (own (sym e))
      | inr n ↦ inl (is ∙ same_from_ne at to n)
    ]

-- a request of a push that carries this reference asks of that upload
pub own_harmless : (p : Push) (place : Option (List ℕ)) (log : List Attempt) (ask : Ask) → IsSoundAsk p log ask
    → IsHarmless p place ask
own_harmless p None log ask sound = tt
own_harmless p (Some at) log ask sound =
    by_sound p log (IsHarmless p (Some at))
    (record {
      opening = inl refl;
      chunk =
          λ to range body place next.
          by_reference p at (asks.Chunk p.name to (Given range) body) to refl
          (λ is. (
            refl,
            is,
            inl (record {
              range = range;
              body = body;
              is = refl;
              part = part_of_next p (heard_offset log) range body next;
            }),
          ));
      status = λ to place. by_reference p at (asks.Status p.name to) to refl (λ is. (refl, is, inr (inl refl)));
      close =
          λ to place all.
          by_reference p at (asks.Close p.name to Absent (Some p.digest) []) to refl
          (λ is. (refl, is, inr (inr refl)));
      head = inl refl;
    })
    ask sound

harmless : (p : Push) (place : Option (List ℕ)) (ask : Ask) → Avoids place ask → IsHarmless p place ask
harmless p None ask avoids = tt
harmless p (Some at) ask avoids = inl avoids

-- ---- the reference that was heard

heard_both : (xs ys : List Marked) → heard_in (xs ++ ys) ≡ heard_in xs ++ heard_in ys
heard_both [] ys = refl
heard_both ((step, other) ∷ xs) ys = heard_both xs ys
heard_both ((step, heard ask what) ∷ xs) ys = ap (λ l. (ask, what) ∷ l) (heard_both xs ys)
heard_both ((step, unheard ask) ∷ xs) ys = heard_both xs ys

-- the reference after these replies, the oldest first
abbrev place_from : List ℕ → Option (List ℕ) → List (Ask × Heard) → Option (List ℕ)
place_from name place [] = place
place_from name place ((ask, what) ∷ more) = place_from name (place_after name (Some what) place) more

place_behind : (name : List ℕ) (place : Option (List ℕ)) (xs ys : List (Ask × Heard))
    → place_from name place (xs ++ ys) ≡ place_from name (place_from name place xs) ys
place_behind name place [] ys = refl
place_behind name place ((ask, what) ∷ xs) ys = place_behind name (place_after name (Some what) place) xs ys

place_told : (name : List ℕ) (place : Option (List ℕ)) (ask : Ask) (told_it : Option Heard)
    → place_from name place (asked_and_told ask told_it) ≡ place_after name told_it place
place_told name place ask None = refl
place_told name place ask (Some what) = refl

place_is : (name : List ℕ) (log : List Attempt) → place_from name None (heard_by log) ≡ heard_place name log
place_is name [] = refl
place_is name (e ∷ log) = simp (place_behind, place_told, place_is name log)

apart_behind : (name : List ℕ) (place : Option (List ℕ)) (xs ys : List Marked) → AreApart name place (xs ++ ys)
    → AreApart name (place_from name place (heard_in xs)) ys
apart_behind name place [] ys apart = apart
apart_behind name place ((step, other) ∷ xs) ys apart = apart_behind name place xs ys apart.1
apart_behind name place ((step, heard ask what) ∷ xs) ys apart =
    search (rules, arith, apart_behind name (place_after name (Some what) place) xs ys apart)
apart_behind name place ((step, unheard ask) ∷ xs) ys apart = apart_behind name place xs ys apart

some_more : (xs ys : List Marked) → ¬ (heard_in xs ≡ []) → ¬ (heard_in (xs ++ ys) ≡ [])
some_more xs ys some none = some (none_before (heard_in xs) (heard_in ys) (sym (heard_both xs ys) ∙ none))

apart_front : (name : List ℕ) (place : Option (List ℕ)) (xs ys : List Marked) → AreApart name place (xs ++ ys)
    → AreApart name place xs
apart_front name place [] ys apart = tt
apart_front name place ((step, other) ∷ xs) ys apart =
    search (rules, arith, some_more, apart_front name place xs ys apart.1)
apart_front name place ((step, heard ask what) ∷ xs) ys apart =
    search (rules, arith, apart_front name (place_after name (Some what) place) xs ys apart)
apart_front name place ((step, unheard ask) ∷ xs) ys apart = apart_front name place xs ys apart

-- something is heard behind these
heard_later : (xs : List Marked) (step : Step) (ask : Ask) (what : Heard) (ys : List Marked)
    → ¬ (heard_in (xs ++ (step, heard ask what) ∷ ys) ≡ [])
heard_later xs step ask what ys none =
    let none_there = ap length (sym (heard_both xs ((step, heard ask what) ∷ ys)) ∙ none) in
    omega (arith, none_there, length-append {A = Ask × Heard})

-- what is served in front of a request that was heard, behind the one before, leaves the upload
all_harmless : (p : Push) (place : Option (List ℕ)) (xs : List Marked) (step : Step) (ask : Ask) (what : Heard)
    (ys : List Marked) → heard_in xs ≡ [] → AreApart p.name place (xs ++ (step, heard ask what) ∷ ys)
    → AllByRecursion Agrees xs → AllByRecursion (IsFair p) xs → AreHarmless p place (exchanges_in xs)
all_harmless p place [] step ask what ys none apart agree fair = tt
all_harmless p place ((at, other) ∷ xs) step ask what ys none apart agree fair =
    search (rules, arith, harmless, heard_later, all_harmless p place xs step ask what ys none apart.1 agree.1 fair.1)
all_harmless p place ((at, heard a w) ∷ xs) step ask what ys none apart agree fair = absurd (cc none)
all_harmless p place ((at, unheard a) ∷ xs) step ask what ys none apart agree fair =
    search (rules, arith, own_harmless, all_harmless p place xs step ask what ys none apart agree.1 fair.1)

-- ---- runs

-- a run in two parts
record Split (start : State) (xs ys : List served.Exchange) (end : State) : Type 0 where
  mid : State
  first : Run start xs mid
  second : Run mid ys end

split_run : (start : State) (xs ys : List served.Exchange) (end : State) → Run start (xs ++ ys) end
    → Split start xs ys end
split_run start [] ys end run = record { mid = start; first = refl; second = run }
split_run start (x ∷ xs) ys end run = search (rules, arith, split_run run.0 xs ys end run.2)

pub join_runs : (start : State) (xs ys : List served.Exchange) (mid end : State) → Run start xs mid → Run mid ys end
    → Run start (xs ++ ys) end
join_runs start [] ys mid end first second = subst (λ s. Run s ys end) first second
join_runs start (x ∷ xs) ys mid end first second = (first.0, first.1, join_runs first.0 xs ys mid end first.2 second)

-- ---- the request that was heard last

-- the marked steps around the one whose reply was heard last
record LastHeard (ms : List Marked) (earlier : List (Ask × Heard)) (ask : Ask) (what : Heard) : Type 0 where
  front : List Marked
  step : Step
  back : List Marked
  split : ms ≡ front ++ (step, heard ask what) ∷ back
  heard_before : heard_in front ≡ earlier
  none_behind : heard_in back ≡ []

one_in_front : (m : Marked) (ms : List Marked) (earlier : List (Ask × Heard)) (earlier' : List (Ask × Heard))
    (ask : Ask) (what : Heard) → ((front : List Marked) → heard_in front ≡ earlier → heard_in (m ∷ front) ≡ earlier')
    → LastHeard ms earlier ask what → LastHeard (m ∷ ms) earlier' ask what
one_in_front m ms earlier earlier' ask what more l = record {
  front = m ∷ l.front;
  step = l.step;
  back = l.back;
  split = ap (λ xs. m ∷ xs) l.split;
  heard_before = more l.front l.heard_before;
  none_behind = l.none_behind;
}

last_heard : (ms : List Marked) (earlier : List (Ask × Heard)) (ask : Ask) (what : Heard)
    → heard_in ms ≡ earlier ++ (ask, what) ∷ [] → LastHeard ms earlier ask what
last_heard [] [] ask what e = absurd (cc e)
last_heard [] (x ∷ earlier) ask what e = absurd (cc e)
last_heard ((step, other) ∷ ms) earlier ask what e =
    search (rules, arith, one_in_front, last_heard ms earlier ask what e)
last_heard ((step, unheard a) ∷ ms) earlier ask what e =
    search (rules, arith, one_in_front, last_heard ms earlier ask what e)
last_heard ((step, heard a w) ∷ ms) [] ask what e =
    let pairs : ◌≡◌ {A = Ask × Heard} (a, w) (ask, what) = cc in
    record {
      front = [];
      step = step;
      back = ms;
      split = ap (λ (x : Ask × Heard). (step, heard x.0 x.1) ∷ ms) pairs;
      heard_before = refl;
      none_behind = cc;
    }
last_heard ((step, heard a w) ∷ ms) ((b, v) ∷ earlier) ask what e =
    search (rules, arith, one_in_front, last_heard ms earlier ask what (cc))

-- ---- the push in the run

-- these steps end with one whose reply was heard
pub record HeardLast (front : List Marked) (ask : Ask) (what : Heard) : Type 0 where
  pub earlier : List Marked
  pub step : Step
  pub split : front ≡ earlier ++ (step, heard ask what) ∷ []

-- if the reply to the newest request was heard, the steps end with that request
abbrev pub IsLast : List Attempt → List Marked → Type 0
IsLast [] front = Unit {0}
IsLast (e ∷ log) front = (what : Heard) → e.heard ≡ Some what → HeardLast front e.ask what

-- the push up to these requests, and the steps behind the last one that was heard
pub record Placed (p : Push) (start : State) (log : List Attempt) (ms : List Marked) (end : State) : Type 0 where
  pub front : List Marked
  pub back : List Marked
  pub split : ms ≡ front ++ back
  pub heard_before : heard_in front ≡ heard_by log
  pub last : IsLast log front
  pub none_behind : heard_in back ≡ []
  pub mid : State
  pub first : Run start (exchanges_in front) mid
  pub leads : Leads AskedInRun start log mid
  pub quiet : IsQuietRun p log start mid leads
  pub second : Run mid (exchanges_in back) end

module _ (p : Push) (start : State) where
  place_none : (ms : List Marked) (end : State) → Run start (exchanges_in ms) end → heard_in ms ≡ []
      → Placed p start [] ms end
  place_none ms end run none = record {
    front = [];
    back = ms;
    split = refl;
    heard_before = refl;
    last = tt;
    none_behind = none;
    mid = start;
    first = refl;
    leads = refl;
    quiet = tt;
    second = run;
  }

  -- a request of which nothing was heard
  place_unheard : (e : Attempt) (log : List Attempt) (ms : List Marked) (end : State) → e.heard ≡ None
      → Placed p start log ms end → Placed p start (e ∷ log) ms end
  place_unheard e log ms end none l = record {
    front = l.front;
    back = l.back;
    split = l.split;
    heard_before =
        l.heard_before ∙ sym (append-nil (heard_by log)) ∙ ap (λ h. heard_by log ++ asked_and_told e.ask h) (sym none);
    last = λ what is. absurd (None≢Some (sym none ∙ is));
    none_behind = l.none_behind;
    mid = l.mid;
    first = l.first;
    leads = (l.mid, l.leads, record { before = []; met = l.mid; run = refl; comes = inr (refl, none) });
    quiet = (tt, l.quiet);
    second = l.second;
  }

  -- one that was heard
  place_heard : (e : Attempt) (log : List Attempt) (what : Heard) (before : List Marked) (step : Step)
      (back : List Marked) (mid next end : State) → e.heard ≡ Some what → heard_in before ≡ heard_by log
      → heard_in back ≡ [] → AreApart p.name None (before ++ (step, heard e.ask what) ∷ back)
      → (l : Placed p start log before mid) → AllByRecursion Agrees l.back
      → AllByRecursion (IsFair p) l.back → Agrees (step, heard e.ask what) → HasSecret (step, heard e.ask what)
      → Turn mid step.exchange.ask step.exchange.secret step.exchange.now step.exchange.answer next
      → Run next (exchanges_in back) end → Placed p start (e ∷ log) (before ++ (step, heard e.ask what) ∷ back) end
  place_heard e log what before step back mid next end is heard_first none_later apart l agree fair agrees
      is_secret turn run =
      let m : Marked = (step, heard e.ask what) in
      let apart_here : AreApart p.name (heard_place p.name log) (l.back ++ m ∷ back) =
      subst (λ place. AreApart p.name place (l.back ++ m ∷ back))
      (ap (place_from p.name None) l.heard_before ∙ place_is p.name log)
      (apart_behind p.name None l.front (l.back ++ m ∷ back)
      (subst (AreApart p.name None)
      (ap (λ xs. xs ++ m ∷ back) l.split ∙ append_assoc l.front l.back (m ∷ back)) apart)) in
      record {
        front = before ++ m ∷ [];
        back = back;
        split = sym (append_assoc before (m ∷ []) back);
        heard_before =
            heard_both before (m ∷ []) ∙ ap (λ l. l ++ (e.ask, what) ∷ []) heard_first
            ∙ ap (λ h. heard_by log ++ asked_and_told e.ask h) (sym is);
        last = λ heard_what heard_is. record {
          earlier = before;
          step = step;
          split = cc (is, heard_is);
        };
        none_behind = none_later;
        mid = next;
        first = one_turn_more before (split_back l) turn;
        leads = (
          l.mid,
          l.leads,
          record {
            before = exchanges_in l.back;
            met = mid;
            run = l.second;
            comes = inl (record {
              secret = step.exchange.secret;
              now = step.exchange.now;
              answer = step.exchange.answer;
              is_secret = is_secret;
              turn =
                  subst (λ a. Turn mid a step.exchange.secret step.exchange.now step.exchange.answer next) agrees.0
                  turn;
              reaches = subst (IsHeardOf step.exchange.answer) (sym is) agrees.1;
            });
          },
        );
        quiet = (
          all_harmless p (heard_place p.name log) l.back step e.ask what back l.none_behind apart_here agree fair,
          l.quiet,
        );
        second = run;
      }
    where
      split_back : Placed p start log before mid → Run start (exchanges_in before) mid
      split_back q = subst (λ ms. Run start (exchanges_in ms) mid) (sym q.split)
          (subst (λ xs. Run start xs mid) (sym (map-append (λ (m : Marked). m.0.exchange) q.front q.back))
          (join_runs start (exchanges_in q.front) (exchanges_in q.back) q.mid mid q.first q.second))

      one_turn_more : (ms : List Marked) → Run start (exchanges_in ms) mid
          → Turn mid step.exchange.ask step.exchange.secret step.exchange.now step.exchange.answer next
          → Run start (exchanges_in (ms ++ (step, heard e.ask what) ∷ [])) next
      one_turn_more ms first t =
          subst (λ xs. Run start xs next)
          (sym (map-append (λ (m : Marked). m.0.exchange) ms ((step, heard e.ask what) ∷ [])))
          (join_runs start (exchanges_in ms) (step.exchange ∷ []) mid next first (next, t, refl))

  pub placed : (log : List Attempt) (ms : List Marked) (end : State) → Run start (exchanges_in ms) end
      → heard_in ms ≡ heard_by log → AllByRecursion Agrees ms → AllByRecursion (IsFair p) ms → AreApart p.name None ms
      → AllByRecursion HasSecret ms → Placed p start log ms end
  placed [] ms end run order agree fair apart secrets = place_none ms end run order
  placed (e ∷ log) ms end run order agree fair apart secrets =
      elim e.heard as (λ h. e.heard ≡ h → Placed p start (e ∷ log) ms end) [
        | None ↦ λ is.
            let same : heard_by (e ∷ log) ≡ heard_by log =
            ap (λ h. heard_by log ++ asked_and_told e.ask h) is ∙ append-nil (heard_by log) in
            place_unheard e log ms end is (placed log ms end run (order ∙ same) agree fair apart secrets)
        | Some what ↦ λ is.
            let last =
            last_heard ms (heard_by log) e.ask what (order ∙ ap (λ h. heard_by log ++ asked_and_told e.ask h) is) in
            let m : Marked = (last.step, heard e.ask what) in
            let whole : Run start (exchanges_in last.front ++ m.0.exchange ∷ exchanges_in last.back) end =
            subst (λ xs. Run start xs end) (map-append (λ (n : Marked). n.0.exchange) last.front (m ∷ last.back))
            (subst (λ xs. Run start (exchanges_in xs) end) last.split run) in
            let parts = split_run start (exchanges_in last.front) (m.0.exchange ∷ exchanges_in last.back) end whole in
            let agree' = subst (AllByRecursion Agrees) last.split agree in
            let fair' = subst (AllByRecursion (IsFair p)) last.split fair in
            let apart' = subst (AreApart p.name None) last.split apart in
            let secrets' = subst (AllByRecursion HasSecret) last.split secrets in
            let earlier =
            placed log last.front parts.mid parts.first last.heard_before
            (all_first Agrees last.front (m ∷ last.back) agree')
            (all_first (IsFair p) last.front (m ∷ last.back) fair')
            (apart_front p.name None last.front (m ∷ last.back) apart')
            (all_first HasSecret last.front (m ∷ last.back) secrets') in
            let agree_front =
            subst (AllByRecursion Agrees) earlier.split (all_first Agrees last.front (m ∷ last.back) agree') in
            let fair_front =
            subst (AllByRecursion (IsFair p)) earlier.split (all_first (IsFair p) last.front (m ∷ last.back) fair') in
            subst (λ xs. Placed p start (e ∷ log) xs end) (sym last.split)
            (place_heard e log what last.front last.step last.back parts.mid parts.second.0 end is last.heard_before
            last.none_behind apart' earlier
            (all_second Agrees earlier.front earlier.back agree_front)
            (all_second (IsFair p) earlier.front earlier.back fair_front)
            (all_second Agrees last.front (m ∷ last.back) agree').0
            (all_second HasSecret last.front (m ∷ last.back) secrets').0 parts.second.1 parts.second.2)
      ] refl
