-- What a keeper keeps, from one message to the next.
use Rattle.std.proofs.Common.{◌≡◌, ℕ, ◌+◌, ◌<◌, ◌≤◌, ◌==◌, min, max, Bool, true, false, true≢false, cond, List, [], ◌∷◌}
use Rattle.std.proofs.Common.{◌++◌, map, length-append, sym, refl, ap, ◌∙◌, subst, arith, append-nil, rules}
use Rattle.std.proofs.Common.{append_assoc, Result, Ok, Err, MatchResult, get_or, set, leb, length, ⊎_elim}
use Rattle.std.specs.List.{AllByRecursion}
use Rattle.std.proofs.lemmas.List.{length-set, get_or-set_same, get_or-set_other}
use Rattle.std.proofs.lemmas.Bool.{eqb-true, eqb-false, leb-true, leb-false}
use Rattle.std.proofs.lemmas.List.{map-append}
use Rattle.std.proofs.lemmas.List.Elements.{filter-append}
use Rattle.upload_service.specs.declared.ask.Request.{Request}
use Rattle.upload_service.specs.Requests.{ask_in}
use Rattle.upload_service.specs.declared.answer.Answer.{Answer}
use Rattle.upload_service.specs.Machine.{State, Turn}
use Rattle.upload_service.specs.Run.{Exchange, Run, NeverBefore}
use Rattle.upload_service.specs.Headline.{HeadlineHolds}
use Rattle.upload_keeper.specs.declared.line.Item.{Item}
use Rattle.upload_keeper.specs.declared.line.LineView.{LineView}
use Rattle.upload_keeper.specs.declared.message.Message.{Message}
use Rattle.upload_keeper.specs.declared.message.Wish.{Wish}
use Rattle.upload_keeper.specs.declared.message.Message.TheVariants as message
use Rattle.upload_keeper.specs.Line.{items_of, with_sent, with_taken, IsOfAnother}
use Rattle.upload_keeper.specs.Log.{TakenJob, Step, step_of, steps_of, exchanges_of, taken_by, answers_to}
use Rattle.upload_keeper.specs.Log.{last_moment}
use Rattle.upload_keeper.specs.declared.reply.ReplyLine.{ReplyLine}
use Rattle.upload_keeper.specs.Served.{KeeperState, IsSameKeeper, IsServed}
use Rattle.upload_keeper.specs.Told.{Told, Grows}
use Rattle.upload_keeper.specs.Typed.{AreTyped}
use Rattle.upload_keeper.specs.declared.log.Entry.{Entry}
use Rattle.upload_keeper.specs.Settled.{count_limit}
use Rattle.upload_keeper.specs.Kept.{taken_in, add_job, has_finish}
use Rattle.upload_keeper.specs.Kept.{Outlet, outlet_of, held_in, IsOwed, Replied, Holds, Sends}
use Rattle.upload_keeper.specs.Kept.{Ledger}
use Rattle.std.specs.Prelude.{Option, Some, None, IsSome}
use Rattle.upload_keeper.specs.Kept.{Keeps, KeepsSeat, Receives, TookFinish, AreOfSeats, IsKeeping}
use Rattle.upload_keeper.specs.Kept.Holds.{Held, Crowded, Again}
use Rattle.upload_keeper.specs.Kept.Sends.{Sent, Closed, Still}
use Rattle.upload_keeper.proofs.Changes.{last_moment-from}
use Rattle.upload_keeper.proofs.LineMoves.{same, is_either, items_of-append, of_own, seat_below}

pub run_more : (xs : List Exchange) (x : Exchange) (start before after : State) → Run start xs before
    → Turn before x.ask x.secret x.now x.answer after → Run start (xs ++ x ∷ []) after
run_more [] x start before after r t = (after, subst (λ s. Turn s x.ask x.secret x.now x.answer after) r t, refl)
run_more (y ∷ ys) x start before after r t = (r.0, r.1, run_more ys x r.0 before after r.2 t)

pub never_before_more : (moment : ℕ) (xs : List Exchange) (x : Exchange) → NeverBefore moment xs
    → last_moment moment xs ≤ x.now → NeverBefore moment (xs ++ x ∷ [])
never_before_more moment [] x n later = (later, tt)
never_before_more moment (y ∷ ys) x n later = (n.0, never_before_more y.now ys x n.1 later)

pub last_moment-more : (moment : ℕ) (xs : List Exchange) (x : Exchange) → last_moment moment (xs ++ x ∷ []) ≡ x.now
last_moment-more moment [] x = refl
last_moment-more moment (y ∷ ys) x = last_moment-more y.now ys x

add_job-append : (seat : ℕ) (m : Message) (xs ys : List TakenJob) → add_job seat m (xs ++ ys) ≡ add_job seat m xs ++ ys
add_job-append seat m xs ys = search (rules, arith)

pub taken_in-append : (xs ys : List (Item Message)) → taken_in (xs ++ ys) ≡ taken_in xs ++ taken_in ys
taken_in-append [] ys = refl
taken_in-append (x ∷ xs) ys = cc (add_job-append x.seat x.what (taken_in xs) (taken_in ys), taken_in-append xs ys)

pub exchanges_of-more : (steps : List Step) (s : Step)
    → exchanges_of (steps ++ s ∷ []) ≡ exchanges_of steps ++ s.exchange ∷ []
exchanges_of-more steps s = map-append (λ (y : Step). y.exchange) steps (s ∷ [])

answers_to-append : (seat : ℕ) (xs ys : List Step)
    → answers_to seat (xs ++ ys) ≡ answers_to seat xs ++ answers_to seat ys
answers_to-append seat xs ys = simp (filter-append, map-append)

answer_if : (s : Step) (b : Bool)
    → map (λ (y : Step). y.exchange.answer) (cond b (s ∷ []) []) ≡ cond b (s.exchange.answer ∷ []) []
answer_if s true = refl
answer_if s false = refl

-- a step of a side, and one of the other, among the answers of a side
answers_to-one : (seat : ℕ) (s : Step) (b : Bool) → (seat == s.seat) ≡ b
    → answers_to seat (s ∷ []) ≡ cond b (s.exchange.answer ∷ []) []
answers_to-one seat s b e = ap (λ c. map (λ (y : Step). y.exchange.answer) (cond c (s ∷ []) [])) e ∙ answer_if s b

pub owed_alone : (seat : ℕ) (steps : List Step) (outlet : Outlet) (h : Replied seat steps outlet)
    → outlet.is_crowded ≡ false → outlet.is_open ≡ true → h.unsent ≡ held_in outlet.held
owed_alone seat steps outlet h alone up = subst (λ c. IsOwed c outlet.held h.unsent) alone (h.all up)

one_held : (held : Option Answer) → IsSome held → length (held_in held) ≡ 1
one_held (Some answer) some = refl
one_held None some = absurd (true≢false (sym some))

module _ (seat : ℕ) (steps : List Step) (s : Step) where
  -- with its answer behind what wasn't sent
  replied_behind : (seat == s.seat) ≡ true → (old new : Outlet) (h : Replied seat steps old) → new.view ≡ old.view
      → (new.is_open ≡ true → IsOwed new.is_crowded new.held (h.unsent ++ s.exchange.answer ∷ []))
      → Replied seat (steps ++ s ∷ []) new
  replied_behind ours old new h same owed =
      search (rules, arith, same, answers_to-append, answers_to-one, append_assoc)

  replied_more : (seat == s.seat) ≡ true → (old new : Outlet) → Replied seat steps old
      → Holds s.exchange.answer old new → Replied seat (steps ++ s ∷ []) new
  replied_more ours old new h (Held alone none is) =
      subst (λ o. Replied seat (steps ++ s ∷ []) o) (sym is)
      (replied_behind ours old (record old { held = Some s.exchange.answer }) h refl
      (λ up. subst (λ c. IsOwed c (Some s.exchange.answer) (h.unsent ++ s.exchange.answer ∷ [])) (sym alone)
      (ap (λ r. r ++ s.exchange.answer ∷ []) (owed_alone seat steps old h alone up ∙ ap held_in none))))
  replied_more ours old new h (Crowded alone some is) =
      subst (λ o. Replied seat (steps ++ s ∷ []) o) (sym is)
      (replied_behind ours old (record old { is_crowded = true }) h refl
      (λ up.
      let one = ap length (owed_alone seat steps old h alone up) ∙ one_held old.held some in
      let more = length-append h.unsent (s.exchange.answer ∷ []) in omega arith))
  replied_more ours old new h (Again crowded is) =
      subst (λ o. Replied seat (steps ++ s ∷ []) o) (sym is)
      (replied_behind ours old old h refl
      (λ up.
      let many = subst (λ c. IsOwed c old.held h.unsent) crowded (h.all up) in
      let more = length-append h.unsent (s.exchange.answer ∷ []) in
      subst (λ c. IsOwed c old.held (h.unsent ++ s.exchange.answer ∷ [])) (sym crowded) (omega (arith, many, more))))

  replied_other : (seat == s.seat) ≡ false → (outlet : Outlet) → Replied seat steps outlet
      → Replied seat (steps ++ s ∷ []) outlet
  replied_other theirs outlet h = search (rules, arith, answers_to-append, answers_to-one, append-nil)

-- what was held back was sent
replied_sent : (seat : ℕ) (steps : List Step) (old new : Outlet) → Replied seat steps old → Sends old new
    → Replied seat steps new
replied_sent seat steps old new h (Sent answer alone was was_open is_none still sent) =
    search (rules, arith, owed_alone, append-nil, still)
replied_sent seat steps old new h (Closed is_closed same) = search (rules, arith, same)
replied_sent seat steps old new h (Still same) = subst (Replied seat steps) (sym same) h

-- an outlet with these
abbrev outlet : Bool → LineView Answer → Option Answer → Bool → Outlet
outlet is_open view held is_crowded =
    record { is_open = is_open; view = view; held = held; is_crowded = is_crowded }

module _ (answer : Answer) (is_open is_crowded : Bool) (view : LineView Answer) (held : Option Answer) where
  pub holds_first : is_crowded ≡ false → held ≡ None
      → Holds answer (outlet is_open view held is_crowded) (outlet is_open view (Some answer) is_crowded)
  holds_first alone none = Held alone none refl

  pub crowds : is_crowded ≡ false → IsSome held
      → Holds answer (outlet is_open view held is_crowded) (outlet is_open view held true)
  crowds alone some = Crowded alone some refl

  pub crowds_again : is_crowded ≡ true
      → Holds answer (outlet is_open view held is_crowded) (outlet is_open view held is_crowded)
  crowds_again crowded = Again crowded refl

pub ruleset holding = (holds_first, crowds, crowds_again)

module _ (is_open is_crowded : Bool) (view : LineView Answer) (was is : Option Answer) where
  -- nothing was held back, and a line that is closed
  pub none_held : was ≡ None → is ≡ None
      → Sends (outlet is_open view was is_crowded) (outlet is_open view is is_crowded)
  none_held p q = Still (λ i. outlet is_open view ((q ∙ sym p) i) is_crowded)

  pub was_closed : is_open ≡ false → Sends (outlet is_open view was is_crowded) (outlet is_open view is is_crowded)
  was_closed closed = Closed closed refl

pub nothing_sent : (is_open is_crowded : Bool) (view : LineView Answer) (held : Option Answer)
    → Sends (outlet is_open view held is_crowded) (outlet is_open view held is_crowded)
nothing_sent is_open is_crowded view held = Still refl

pub ruleset sending = (none_held, was_closed, nothing_sent)

-- what a line that is open comes to by a send
pub replied_by : (answer : Answer) (was_open is_open is_crowded : Bool)
    (old new : LineView Answer) (was is : Option Answer) (sent : Result (Unit {0}) (Item Answer)) → was_open ≡ true
    → is_crowded ≡ false → was ≡ Some answer → is ≡ None
    → MatchResult sent (λ _. new ≡ with_sent (record { seat = 0; what = answer }) old) (λ back.
    (back ≡ record { seat = 0; what = answer }) × (new ≡ old))
    → MatchResult sent (λ _. is_open ≡ was_open) (λ _. is_open ≡ false)
    → Sends (outlet was_open old was is_crowded) (outlet is_open new is is_crowded)
replied_by answer was_open is_open is_crowded old new was is (Ok x) up alone w n m o =
    Sent answer alone w up n alone (λ replies e. m ∙ ap (with_sent (record { seat = 0; what = answer })) e)
replied_by answer was_open is_open is_crowded old new was is (Err back) up alone w n m o = Closed o m.1

has_finish-append : (xs ys : List Message) → has_finish xs ≡ true → has_finish (xs ++ ys) ≡ true
has_finish-append [] ys e = absurd (true≢false (sym e))
has_finish-append (message.Job a s ∷ xs) ys e = has_finish-append xs ys e
has_finish-append (message.Wish wish ∷ xs) ys e = has_finish-append xs ys e
has_finish-append (message.Finish ∷ xs) ys e = refl

has_finish-last : (xs : List Message) → has_finish (xs ++ message.Finish ∷ []) ≡ true
has_finish-last [] = refl
has_finish-last (message.Job a s ∷ xs) = has_finish-last xs
has_finish-last (message.Wish wish ∷ xs) = has_finish-last xs
has_finish-last (message.Finish ∷ xs) = refl

all_more : {A : Type 0} (P : A → Type 0) (xs : List A) (x : A) → AllByRecursion P xs → P x
    → AllByRecursion P (xs ++ x ∷ [])
all_more P [] x h p = (p, tt)
all_more P (y ∷ ys) x h p = (h.0, all_more P ys x h.1 p)

less_unless : (a b : ℕ) → (b ≤ a → ⊥) → a < b
less_unless a b never = ⊎_elim (λ t. absurd (never (leb-true b a t))) (λ f. leb-false b a f) (is_either (leb b a))

-- a fact of each place and its line, if one line was set
each_set : (F : ℕ → ReplyLine → Type 0) (lines : List ReplyLine) (at : ℕ) (line : ReplyLine)
    → at < length lines → F at line
    → ((seat : ℕ) (d : ReplyLine) → seat < length lines → (seat == at) ≡ false → F seat (get_or lines seat d))
    → (seat : ℕ) (d : ReplyLine) → seat < length (set lines at line) → F seat (get_or (set lines at line) seat d)
each_set F lines at line inside mine others seat d below =
    search (rules, arith, eqb-true, get_or-set_same, inside, get_or-set_other, eqb-false, length-set, is_either)

module _ (old : Ledger) (j j' : LineView Message) (lines : List ReplyLine) (k : IsKeeping old j lines)
    (x : Item Message) (took : (j' ≡ with_taken x j) × IsOfAnother j x) where
  -- the item is of a seat of the keeper's
  pub inside : x.seat < length lines
  inside = less_unless x.seat (length lines) (seat_below (length lines) k.receives.taken j x k.receives.is_taker took.1)

  taken_more : Receives (length lines) j'
  taken_more = record { taken = k.receives.taken ++ x ∷ []; is_taker = took.0 ∙ ap (with_taken x) k.receives.is_taker }

  finish_stays : (seat : ℕ) → TookFinish seat j → TookFinish seat j'
  finish_stays seat f =
      cc (items_of-append seat j.taken (x ∷ []), has_finish-append (items_of seat j.taken) (items_of seat (x ∷ [])) f)

  -- what is kept of the seats, if the line of one was set
  after : (new : Ledger) (line : ReplyLine) (log : List Step) (lines' : List ReplyLine) → lines' ≡ set lines x.seat line
      → log ≡ new.steps → Keeps new j'.taken → AreOfSeats (length lines) new.steps → KeepsSeat x.seat new.steps j' line
      → ((seat : ℕ) (d : ReplyLine) → seat < length lines → (seat == x.seat) ≡ false
      → KeepsSeat seat new.steps j' (get_or lines seat d)) → IsKeeping (record new { steps = log }) j' lines'
  after new line log lines' put grown keeps seated mine others =
      search (rules, arith, keeps, length-set, taken_more, each_set, inside)

  -- a job was served
  module _ (request : Request) (secret : List ℕ) (a : Answer) (now' : ℕ) (service' : State) (count' : ℕ)
      (job : x.what ≡ message.Job request secret) (later : old.now ≤ now')
      (turn : Turn old.service (ask_in request) secret now' a service') (types : AreTyped secret now' a)
      (counted : count' ≡ min (old.count + 1) count_limit) where
    abbrev pub step : Step
    step = record { seat = x.seat; exchange = record { ask = ask_in request; secret = secret; now = now'; answer = a } }

    -- the ledger with that step
    abbrev pub with_step : Ledger
    with_step = record {
      start = old.start;
      since = old.since;
      service = service';
      now = now';
      count = count';
      steps = old.steps ++ step ∷ [];
    }

    is_taken : taken_by with_step.steps ≡ taken_in j'.taken
    is_taken = search (rules, arith, map-append, taken_in-append)

    keeps : Keeps with_step j'.taken
    keeps =
        search (
          rules,
          arith,
          exchanges_of-more,
          run_more,
          never_before_more,
          last_moment-from,
          last_moment-more,
          all_more,
          is_taken,
          length-append,
        )

    pub served_seat : (was line : ReplyLine)
        → was ≡ get_or lines x.seat was → Holds a (outlet_of was) (outlet_of line) → line.is_done ≡ was.is_done
        → (lines' : List ReplyLine) → lines' ≡ set lines x.seat line → (log : List Step) → log ≡ with_step.steps
        → IsKeeping (record with_step { steps = log }) j' lines'
    served_seat was line was_is m is_done lines' put log grown =
        let kept = subst (λ y. KeepsSeat x.seat old.steps j y) (sym was_is) (k.each x.seat was inside) in
        after with_step line log lines' put grown keeps
        (all_more (λ (s : Step). s.seat < length lines) old.steps step k.seated inside)
        (record {
          replied = replied_more x.seat old.steps step (same x.seat) (outlet_of was) (outlet_of line) kept.replied m;
          finish = λ p. finish_stays x.seat (kept.finish (sym is_done ∙ p));
        })
        (λ seat d below apart.
        let kept' = k.each seat d below in
        record {
          replied = replied_other seat old.steps step apart (outlet_of (get_or lines seat d)) kept'.replied;
          finish = λ p. finish_stays seat (kept'.finish p);
        })

  -- an item was taken that is no job
  module _ (no_job : add_job x.seat x.what [] ≡ []) where
    none_taken : taken_by old.steps ≡ taken_in j'.taken
    none_taken = cc (append-nil (taken_in j.taken), taken_in-append j.taken (x ∷ []))

    still : Keeps old j'.taken
    still = search (rules, arith, is_taken, none_taken)

    keeps_seat_still : (seat : ℕ) (line : ReplyLine) → KeepsSeat seat old.steps j line
        → KeepsSeat seat old.steps j' line
    keeps_seat_still seat line kept = record { replied = kept.replied; finish = λ p. finish_stays seat (kept.finish p) }

  -- a wish was taken, which the service seems not to have heard
  pub wish_taken : (w : Wish) → x.what ≡ message.Wish w → (service' : State)
      → service' ≡ old.service → IsKeeping (record old { service = service' }) j' lines
  wish_taken w wish service' same =
      let no_job : add_job x.seat x.what [] ≡ [] = ap (λ m. add_job x.seat m []) wish in
      subst (λ s. IsKeeping (record old { service = s }) j' lines) (sym same) record {
        keeps = still no_job;
        receives = taken_more;
        seated = k.seated;
        each = λ seat d below. keeps_seat_still no_job seat (get_or lines seat d) (k.each seat d below);
      }

  -- a finish was taken
  module _ (finish : x.what ≡ message.Finish) where
    took_finish : TookFinish x.seat j'
    took_finish =
        cc (
          items_of-append x.seat j.taken (x ∷ []),
          of_own x.seat x (same x.seat),
          same x.seat,
          has_finish-last (items_of x.seat j.taken),
        )

    pub finished_seat : (was line : ReplyLine) → was ≡ get_or lines x.seat was → outlet_of line ≡ outlet_of was
        → (lines' : List ReplyLine) → lines' ≡ set lines x.seat line → IsKeeping old j' lines'
    finished_seat was line was_is same_outlet lines' put =
        let kept = subst (λ y. KeepsSeat x.seat old.steps j y) (sym was_is) (k.each x.seat was inside) in
        let no_job : add_job x.seat x.what [] ≡ [] = ap (λ m. add_job x.seat m []) finish in
        after old line old.steps lines' put refl (still no_job) k.seated
        (record {
          replied = subst (λ o. Replied x.seat old.steps o) (sym same_outlet) kept.replied;
          finish = λ p. took_finish;
        })
        (λ seat d below apart. keeps_seat_still no_job seat (get_or lines seat d) (k.each seat d below))

-- a seat was sent what was held back
pub sent_seat : (ledger : Ledger) (jobs : LineView Message) (lines : List ReplyLine) → IsKeeping ledger jobs lines
    → (at : ℕ) → at < length lines → (was line : ReplyLine) → was ≡ get_or lines at was
    → Sends (outlet_of was) (outlet_of line) → line.is_done ≡ was.is_done
    → (lines' : List ReplyLine) → lines' ≡ set lines at line → IsKeeping ledger jobs lines'
sent_seat ledger jobs lines k at inside was line was_is sends is_done lines' put =
    let kept = subst (λ y. KeepsSeat at ledger.steps jobs y) (sym was_is) (k.each at was inside) in
    subst (IsKeeping ledger jobs) (sym put) record {
      keeps = k.keeps;
      receives = subst (λ n. Receives n jobs) (sym (length-set lines at line)) k.receives;
      seated = subst (λ n. AreOfSeats n ledger.steps) (sym (length-set lines at line)) k.seated;
      each =
          each_set (λ seat y. KeepsSeat seat ledger.steps jobs y) lines at line inside
          (record {
            replied = replied_sent at ledger.steps (outlet_of was) (outlet_of line) kept.replied sends;
            finish = λ p. kept.finish (sym is_done ∙ p);
          })
          (λ seat d below apart. k.each seat d below);
    }

-- what a keeper kept is a run of which the headline holds
pub served : HeadlineHolds → (ledger : Ledger) (taken : List (Item Message)) → Keeps ledger taken
    → IsServed ledger.start (exchanges_of ledger.steps) ledger.service
served law ledger taken k = search (rules, arith)

-- one entry more is one step more
pub logged : (items more : List Entry) (e : Entry) (s : Step) → more ≡ items ++ e ∷ [] → step_of e ≡ s
    → steps_of more ≡ steps_of items ++ s ∷ []
logged items more e s grown same = cc (map-append step_of items (e ∷ []))

module _ {M : Type 0} (tells : M → ℕ → M → Type 0) where
  told_more : (before : ℕ) (old mid new : M) (xs ys : List Exchange) → Told tells before old xs mid
      → Told tells (last_moment before xs) mid ys new → Told tells before old (xs ++ ys) new
  told_more before old mid new [] ys p q = subst (λ m. Told tells before m ys new) p q
  told_more before old mid new (x ∷ xs) ys p q = (p.0, p.1, p.2, p.3, told_more x.now p.1 mid new xs ys p.4 q)

  last_moment-append : (moment : ℕ) (xs ys : List Exchange)
      → last_moment moment (xs ++ ys) ≡ last_moment (last_moment moment xs) ys
  last_moment-append moment [] ys = refl
  last_moment-append moment (x ∷ xs) ys = last_moment-append x.now xs ys

  pub grows_none : (keeper new : KeeperState) (before after : M) → new.log ≡ keeper.log → after ≡ before
      → Grows tells keeper before new after
  grows_none keeper new before after same still = search (rules, arith, same, append-nil, still)

  pub grows_one : (old new : KeeperState) (before after : M) (now told : ℕ) (s : Step) → new.log ≡ old.log ++ s ∷ []
      → now ≡ last_moment old.since (exchanges_of old.log) → tells before told after → s.exchange.now ≡ max now told
      → Grows tells old before new after
  grows_one old new before after now told s grown last tell greater = search (rules, arith, after)

  pub grows_twice : (a b c : KeeperState) (p q r : M) → b.since ≡ a.since → Grows tells a p b q → Grows tells b q c r
      → Grows tells a p c r
  grows_twice a b c p q r same f g =
      search (rules, arith, append_assoc, map-append, same, last_moment-append, told_more)

pub same_keeper_twice : (a b c : KeeperState) → IsSameKeeper a b → IsSameKeeper b c → IsSameKeeper a c
same_keeper_twice a b c p q = search (rules, arith)
