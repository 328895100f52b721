-- What the ends of a settlement say together.
use Rattle.std.proofs.Common.{◌≡◌, ℕ, ◌<◌, ◌==◌, suc, Bool, true, false, true≢false, cond, List, [], ◌∷◌, ◌++◌, length}
use Rattle.std.proofs.Common.{map, length-append, sym, refl, ap, ◌∙◌, subst, arith, append-nil, append_assoc}
use Rattle.std.proofs.Common.{get_or, min, rules}
use Rattle.std.proofs.lemmas.List.{length-map}
use Rattle.std.specs.List.{AllByRecursion}
use Rattle.upload_service.specs.Headline.{HeadlineHolds}
use Rattle.upload_service.specs.declared.answer.Answer.{Answer}
use Rattle.upload_keeper.specs.declared.line.Item.{Item}
use Rattle.upload_keeper.specs.declared.line.LineView.{LineView}
use Rattle.upload_keeper.specs.declared.message.Message.{Message}
use Rattle.upload_keeper.specs.declared.message.Message.TheVariants as message
use Rattle.upload_keeper.specs.Line.{items_of, sent, joined, Waits}
use Rattle.upload_keeper.specs.declared.reply.ReplyLine.{ReplyLine}
use Rattle.upload_keeper.specs.Seats.{SeatState}
use Rattle.upload_keeper.specs.Settled.{IsSettled, IsSettledSeat, count_limit}
use Rattle.upload_keeper.specs.Typed.{AllTyped}
use Rattle.upload_keeper.specs.Settles.{Settles}
use Rattle.upload_keeper.specs.Replies.{replies_on}
use Rattle.upload_keeper.specs.Served.{KeeperState, IsServed, IsSeatOf, AreOfOneCall}
use Rattle.crossbeam_channel.specs.Claims.{view as known}
use Rattle.upload_keeper.specs.Log.{TakenJob, Step, exchanges_of, taken_by, jobs_of, answers_to}
use Rattle.upload_keeper.specs.Passes.{LineId, sender_view, taker_view, whats}
use Rattle.upload_keeper.specs.Kept.{jobs_in, taken_in, add_job, has_finish, is_empty, is_closed, Outlet, outlet_of}
use Rattle.upload_keeper.specs.Kept.{Ledger, Replied, SatToTheEnd, IsKeeping, AreDone, TookFinish}
use Rattle.upload_keeper.proofs.KeeperMoves.{served}
use Rattle.upload_keeper.proofs.LineMoves.{same, items_of-append}
use Rattle.upload_keeper.proofs.Opening.{get_or-map, get_or-mid, mid_below}

empty : (xs ys : List Message) → is_empty (xs ++ ys) ≡ true → ys ≡ []
empty [] [] e = refl
empty [] (y ∷ ys) e = absurd (true≢false (sym e))
empty (x ∷ xs) ys e = absurd (true≢false (sym e))

-- nothing comes after a finish
nothing_after : (xs ys : List Message) → has_finish xs ≡ true → is_closed (xs ++ ys) ≡ true → ys ≡ []
nothing_after [] ys f c = absurd (true≢false (sym f))
nothing_after (message.Job a s ∷ xs) ys f c = nothing_after xs ys f c
nothing_after (message.Wish wish ∷ xs) ys f c = nothing_after xs ys f c
nothing_after (message.Finish ∷ xs) ys f c = empty xs ys c

-- if the finish was taken, everything was
all_taken : (seat : ℕ) (taken waiting : List (Item Message)) (sent : List Message)
    → sent ≡ items_of seat (taken ++ waiting) → is_closed sent ≡ true → has_finish (items_of seat taken) ≡ true
    → items_of seat taken ≡ sent
all_taken seat taken waiting sent e c f = search (rules, arith, items_of-append, nothing_after, append-nil)

-- of one item in front: its job is of its seat
jobs_of-add_job : (seat : ℕ) (x : Item Message) (jobs : List TakenJob)
    → jobs_of seat (add_job x.seat x.what jobs) ≡ jobs_in (cond (seat == x.seat) (x.what ∷ []) []) ++ jobs_of seat jobs
jobs_of-add_job seat x jobs = search (rules, arith)

jobs_in-items_of : (seat : ℕ) (x : Item Message) (xs : List (Item Message))
    → jobs_in (items_of seat (x ∷ xs)) ≡ jobs_in (cond (seat == x.seat) (x.what ∷ []) []) ++ jobs_in (items_of seat xs)
jobs_in-items_of seat x xs = search (rules, arith)

jobs_of-taken_in : (seat : ℕ) (xs : List (Item Message)) → jobs_of seat (taken_in xs) ≡ jobs_in (items_of seat xs)
jobs_of-taken_in seat [] = refl
jobs_of-taken_in seat (x ∷ xs) =
    cc (jobs_of-add_job seat x (taken_in xs), jobs_in-items_of seat x xs, jobs_of-taken_in seat xs)

length-answers_to : (seat : ℕ) (steps : List Step)
    → length (answers_to seat steps) ≡ length (jobs_of seat (taken_by steps))
length-answers_to seat [] = refl
length-answers_to seat (s ∷ steps) = search (rules, arith, length-answers_to seat steps)

module _ {T : Type 0} where
  length-whats : (xs : List (Item T)) → length (whats xs) ≡ length xs
  length-whats [] = refl
  length-whats (x ∷ xs) = ap suc (length-whats xs)

is_nil : {A : Type 0} (xs : List A) → length xs ≡ 0 → xs ≡ []
is_nil [] e = refl
is_nil (x ∷ xs) e = absurd (omega arith)

-- what a seat heard, of the answers to it
heard : (seat : ℕ) (steps : List Step) (outlet : Outlet) (gone : Bool) (replies : LineView Answer)
    (got : List (Item Answer)) (sent : List Message) → Replied seat steps outlet → replies ≡ taker_view 1 got
    → items_of 0 got ≡ whats got → ((waiting : List (Item Answer)) × Waits (joined replies outlet.view) waiting)
    → (gone ≡ false → length got ≡ length (jobs_in sent)) → jobs_of seat (taken_by steps) ≡ jobs_in sent
    → (unheard : List Answer) × (answers_to seat steps ≡ whats replies.taken ++ unheard) × (gone ≡ false → unheard ≡ [])
heard seat steps outlet gone replies got sent h is_taker of_one waits whole all =
    let waiting : List (Item Answer) = waits.0 in
    let known : Waits (joined (taker_view 1 got) (sender_view 0 h.replies)) waiting =
    subst (λ (p : LineView Answer × LineView Answer). Waits (joined p.1 p.0) waiting)
    (λ i. (h.view i, is_taker i)) waits.1 in
    let later : List Answer = items_of 0 waiting in
    let begins : h.replies ≡ whats got ++ later =
    known refl 0 refl ∙ items_of-append 0 got waiting ∙ ap (λ l. l ++ later) of_one in
    let all_is : answers_to seat steps ≡ whats got ++ (later ++ h.unsent) =
    h.in_order ∙ ap (λ l. l ++ h.unsent) begins ∙ append_assoc (whats got) later h.unsent in (
      later ++ h.unsent,
      all_is ∙ ap (λ v. whats v.taken ++ (later ++ h.unsent)) (sym is_taker),
      λ here. is_nil (later ++ h.unsent)
          (let a = whole here in let b = ap length all in let c = length-answers_to seat steps in
          let d = ap length all_is in let e = length-append (whats got) (later ++ h.unsent) in
          let k = length-whats got in omega arith),
    )

-- One seat's end is settled, with the keeper's pass of the jobs and the seat's passes, which were joined.
pub settled_seat : (ledger : Ledger) (j : LineView Message) (lines : List ReplyLine) → IsKeeping ledger j lines
    → AreDone lines → (seat : ℕ) (line : ReplyLine) → seat < length lines → line ≡ get_or lines seat line
    → (number : ℕ) (gone : Bool) (sj : LineView Message) (sr : LineView Answer) → number ≡ seat
    → SatToTheEnd number gone sj sr → (jt : LineView Message) → jt.takes ≡ true → jt.taken ≡ j.taken
    → ((waiting : List (Item Message)) × Waits (joined jt sj) waiting)
    → ((waiting : List (Item Answer)) × Waits (joined sr (known line.replies.pass)) waiting)
    → (jobs : LineId Message) (replies : LineId Answer) (open_jobs open_replies : Bool) (end : SeatState) → record {
      jobs = jobs;
      replies = replies;
      seat = number;
      sent = jobs_in (sent sj.sending);
      heard = whats sr.taken;
      gone = gone;
      sends = open_jobs;
      takes = open_replies;
    } ≡ end → IsSettledSeat seat ledger.steps end
settled_seat ledger j lines k done seat line below line_is number gone sj sr number_is sat jt takes taken jobs_wait
    replies_wait jobs replies open_jobs open_replies end is =
    let steps : List Step = ledger.steps in
    let kept = k.each seat line below in
    let finish : TookFinish seat j = kept.finish (done seat line below) in
    let its_view : sj ≡ sender_view seat sat.sent = sat.knows.jobs_view ∙ ap (λ n. sender_view n sat.sent) number_is in
    let waits : Waits (joined jt (sender_view seat sat.sent)) jobs_wait.0 =
    subst (λ v. Waits (joined jt v) jobs_wait.0) its_view jobs_wait.1 in
    let all_sent : sat.sent ≡ items_of seat (j.taken ++ jobs_wait.0) =
    waits takes seat (same seat) ∙ ap (λ l. items_of seat (l ++ jobs_wait.0)) taken in
    let items : items_of seat j.taken ≡ sat.sent =
    all_taken seat j.taken jobs_wait.0 sat.sent all_sent sat.finished_last finish in
    let jobs_are : jobs_of seat (taken_by steps) ≡ jobs_in sat.sent =
    ap (jobs_of seat) k.keeps.is_taken ∙ jobs_of-taken_in seat j.taken ∙ ap jobs_in items in
    let replied : Replied seat steps (outlet_of line) =
    subst (λ (y : ReplyLine). Replied seat steps (outlet_of y)) (sym line_is) kept.replied in
    let h =
    heard seat steps (outlet_of line) gone sr sat.knows.got sat.sent replied sat.knows.replies_view sat.knows.of_one
    replies_wait sat.knows.each_answered jobs_are in
    subst (λ (e : SeatState). IsSettledSeat seat steps e) is record {
      sent = jobs_are ∙ ap jobs_in (sym (ap (λ v. sent v.sending) its_view));
      heard = record { unheard = h.0; in_order = h.1; all = h.2 };
    }

-- ---- one seat after the other

-- the next end is of the next seat
pub next_seat : (keeper : KeeperState) (ends : List SeatState) → AreOfOneCall keeper ends
    → (done rest : List SeatState) (end : SeatState) → done ++ end ∷ rest ≡ ends → IsSeatOf keeper (length done) end
next_seat keeper ends one done rest end e =
    subst (IsSeatOf keeper (length done)) (get_or-mid done end rest ends end e)
    (one.each (length done) end (mid_below done end rest ends e))

-- and the next line is its line
pub its_line : (keeper : KeeperState) (lines : List ReplyLine) → map replies_on lines ≡ keeper.replies
    → (done rest : List ReplyLine) (line : ReplyLine) → done ++ line ∷ rest ≡ lines → (number : ℕ)
    → number ≡ length done → (end : SeatState) → IsSeatOf keeper number end → end.replies ≡ replies_on line
its_line keeper lines are done rest line e number number_is end seat =
    seat.replies (replies_on line)
    ∙ ap (λ l. get_or l number (replies_on line)) (sym are)
    ∙ ap (λ k. get_or (map replies_on lines) k (replies_on line)) number_is
    ∙ get_or-map replies_on lines (length done) line (replies_on line) (mid_below done line rest lines e)
    ∙ ap replies_on (get_or-mid done line rest lines line e)

pub next_settled : (ledger : Ledger) (j : LineView Message) (lines : List ReplyLine)
    → IsKeeping ledger j lines × AreDone lines → (jt : LineView Message) → jt.takes ≡ true → jt.taken ≡ j.taken
    → (done rest : List ReplyLine) (line : ReplyLine)
    → done ++ line ∷ rest ≡ lines → (number : ℕ) → number ≡ length done → (end : SeatState) → end.seat ≡ number
    → Settles jt line end → (log : List Step) → ledger.steps ≡ log → IsSettledSeat number log end
next_settled ledger j lines k jt takes taken done rest line e number number_is end seat settles log log_is =
    let b = mid_below done line rest lines e in
    let below : end.seat < length lines = omega (arith, seat, number_is, b) in
    let here : line ≡ get_or lines end.seat line =
    sym (get_or-mid done line rest lines line e) ∙ ap (λ n. get_or lines n line) (sym (seat ∙ number_is)) in
    subst (λ (x : ℕ × List Step). IsSettledSeat x.0 x.1 end) (λ i. (seat i, log_is i))
    (settles ledger j lines k.0 k.1 takes taken below here)

pub all_settled : HeadlineHolds → (ledger : Ledger) (j : LineView Message) (lines : List ReplyLine)
    → IsKeeping ledger j lines → (keeper : KeeperState) (jobs : LineId Message) → record {
      jobs = jobs;
      replies = map replies_on lines;
      start = ledger.start;
      since = ledger.since;
      service = ledger.service;
      log = ledger.steps;
    } ≡ keeper → (ends : List SeatState) → AreOfOneCall keeper ends
    → ((number : ℕ) (d : SeatState) → number < length ends → IsSettledSeat number keeper.log (get_or ends number d))
    → IsSettled keeper ends ledger.service ledger.count
all_settled holds ledger j lines k keeper jobs is ends one each =
    let count_is : length ends ≡ length lines =
    one.count ∙ ap (λ (x : KeeperState). length x.replies) (sym is) ∙ length-map lines replies_on in
    record {
      each = each;
      seated =
          subst (λ (x : KeeperState). AllByRecursion (λ (s : Step). s.seat < length ends) x.log) is
          (subst (λ n. AllByRecursion (λ (s : Step). s.seat < n) ledger.steps) (sym count_is) k.seated);
      same = ap (λ (x : KeeperState). x.service) is;
      served =
          subst (λ (x : KeeperState). IsServed x.start (exchanges_of x.log) ledger.service) is
          (served holds ledger j.taken k.keeps);
      typed = subst (λ (x : KeeperState). AllTyped (exchanges_of x.log)) is k.keeps.typed;
      counted = k.keeps.counted ∙ ap (λ (x : KeeperState). min (length x.log) count_limit) is;
    }
