-- What a seat's passes know after a request, an answer, and the end.
use Rattle.std.proofs.Common.{◌≡◌, ◌≤◌, ◌==◌, ℕ, zero, suc, Bool, true, false, true≢false, List, [], ◌∷◌, ◌++◌}
use Rattle.std.proofs.Common.{length-append, sym, refl, ap, ◌∙◌, arith, append-nil, Result, Ok, Err, MatchResult}
use Rattle.std.proofs.Common.{Option, Some, None, subst, rules}
use Rattle.std.specs.Result.{result_ok}
use Rattle.std.proofs.lemmas.List.{map-append}
use Rattle.upload_service.specs.declared.ask.Ask.{Ask}
use Rattle.upload_service.specs.declared.ask.Request.{Request}
use Rattle.upload_service.specs.declared.ask.Request.TheVariants.{Held, Gone}
use Rattle.upload_service.specs.declared.ask.GoneChunk.{GoneChunk}
use Rattle.upload_service.specs.Requests.{ask_in, chunk_ask}
use Rattle.upload_service.specs.declared.answer.Answer.{Answer}
use Rattle.upload_keeper.specs.declared.line.Item.{Item}
use Rattle.upload_keeper.specs.declared.line.LineView.{LineView}
use Rattle.upload_keeper.specs.declared.message.Message.{Message}
use Rattle.upload_keeper.specs.declared.message.Wish.{Wish}
use Rattle.upload_keeper.specs.declared.message.Message.TheVariants as message
use Rattle.upload_keeper.specs.Line.{sent, with_sent, with_taken, IsOfAnother}
use Rattle.upload_keeper.specs.Log.{Job}
use Rattle.upload_keeper.specs.Passes.{LineId, sender_view, whats}
use Rattle.upload_keeper.specs.Seats.{SeatState, Asks, Hears}
use Rattle.upload_keeper.specs.declared.gone.Gone.TheVariants.{NotSent, NoAnswer}
use Rattle.upload_keeper.specs.Kept.{jobs_in, has_finish, is_closed, Sits, SatToTheEnd, Exchanges, IsHeld}
use Rattle.upload_keeper.proofs.LineMoves.{items_of-append, of_own, seat_below}

module _ {T : Type 0} where
  pub whats_more : (xs : List (Item T)) (x : Item T) → whats (xs ++ x ∷ []) ≡ whats xs ++ x.what ∷ []
  whats_more xs x = map-append (λ (y : Item T). y.what) xs (x ∷ [])

pub jobs_in-append : (xs ys : List Message) → jobs_in (xs ++ ys) ≡ jobs_in xs ++ jobs_in ys
jobs_in-append [] ys = refl
jobs_in-append (message.Job request secret ∷ xs) ys = ap (λ l. (ask_in request, secret) ∷ l) (jobs_in-append xs ys)
jobs_in-append (message.Wish wish ∷ xs) ys = jobs_in-append xs ys
jobs_in-append (message.Finish ∷ xs) ys = jobs_in-append xs ys

still_unfinished : (xs : List Message) (m : Message) → has_finish (m ∷ []) ≡ false → has_finish xs ≡ false
    → has_finish (xs ++ m ∷ []) ≡ false
still_unfinished [] m last e = last
still_unfinished (message.Job a s ∷ xs) m last e = still_unfinished xs m last e
still_unfinished (message.Wish wish ∷ xs) m last e = still_unfinished xs m last e
still_unfinished (message.Finish ∷ xs) m last e = e

closed_by_finish : (xs : List Message) → has_finish xs ≡ false → is_closed (xs ++ message.Finish ∷ []) ≡ true
closed_by_finish [] e = refl
closed_by_finish (message.Job a s ∷ xs) e = closed_by_finish xs e
closed_by_finish (message.Wish wish ∷ xs) e = closed_by_finish xs e
closed_by_finish (message.Finish ∷ xs) e = absurd (true≢false e)

closed_without : (xs : List Message) → has_finish xs ≡ false → is_closed xs ≡ true
closed_without [] e = refl
closed_without (message.Job a s ∷ xs) e = closed_without xs e
closed_without (message.Wish wish ∷ xs) e = closed_without xs e
closed_without (message.Finish ∷ xs) e = absurd (true≢false e)

zero_unless : (n : ℕ) → (1 ≤ n → ⊥) → (0 == n) ≡ true
zero_unless zero h = refl
zero_unless (suc n) h = absurd (h (omega arith))

module _ (seat : ℕ) (gone : Bool) (j : LineView Message) (r : LineView Answer) (s : Sits seat gone j r) where
  -- the view of the jobs, after one message more
  more : (m : Message) (j' : LineView Message) → j' ≡ with_sent (record { seat = seat; what = m }) j
      → j' ≡ sender_view seat (s.sent ++ m ∷ [])
  more m j' e = e ∙ ap (with_sent (record { seat = seat; what = m })) s.knows.jobs_view

  jobs_before : jobs_in (sent j.sending) ≡ jobs_in s.sent
  jobs_before = ap (λ v. jobs_in (sent v.sending)) s.knows.jobs_view

  jobs_after : (m : Message) (j' : LineView Message) → j' ≡ with_sent (record { seat = seat; what = m }) j
      → jobs_in (sent j'.sending) ≡ jobs_in s.sent ++ jobs_in (m ∷ [])
  jobs_after m j' e = cc (more m j' e, jobs_in-append s.sent (m ∷ []))

  pub one_more_sent : (request : Request) (secret : List ℕ) (j' : LineView Message)
      → j' ≡ with_sent (record { seat = seat; what = message.Job request secret }) j
      → jobs_in (sent j'.sending) ≡ jobs_in (sent j.sending) ++ (ask_in request, secret) ∷ []
  one_more_sent request secret j' e = cc (jobs_after (message.Job request secret) j' e)

  no_more_sent : (j' : LineView Message) → j' ≡ with_sent (record { seat = seat; what = message.Finish }) j
      → jobs_in (sent j'.sending) ≡ jobs_in (sent j.sending)
  no_more_sent j' e = jobs_after message.Finish j' e ∙ append-nil (jobs_in s.sent) ∙ sym jobs_before

  -- a wish was sent, which is no job
  pub wish_sent : (wish : Wish) (j' : LineView Message)
      → j' ≡ with_sent (record { seat = seat; what = message.Wish wish }) j → Sits seat gone j' r
  wish_sent wish j' e = search (rules, arith, jobs_in-append, append-nil, more, still_unfinished)

  pub no_job_sent : (wish : Wish) (j' : LineView Message)
      → j' ≡ with_sent (record { seat = seat; what = message.Wish wish }) j
      → jobs_in (sent j'.sending) ≡ jobs_in (sent j.sending)
  no_job_sent wish j' e = jobs_after (message.Wish wish) j' e ∙ append-nil (jobs_in s.sent) ∙ sym jobs_before

  pub answered : gone ≡ false → (request : Request) (secret : List ℕ) (x : Item Answer) (j' : LineView Message)
      (r' : LineView Answer) → j' ≡ with_sent (record { seat = seat; what = message.Job request secret }) j
      → (r' ≡ with_taken x r) × IsOfAnother r x → Sits seat gone j' r'
  answered here request secret x j' r' e f =
      search (
        rules,
        arith,
        more,
        items_of-append,
        of_own,
        zero_unless,
        seat_below,
        whats_more,
        length-append,
        jobs_in-append,
        still_unfinished,
      )

  pub unanswered : (request : Request) (secret : List ℕ) (j' : LineView Message) (r' : LineView Answer)
      → j' ≡ with_sent (record { seat = seat; what = message.Job request secret }) j → r' ≡ r → Sits seat true j' r'
  unanswered request secret j' r' e f = search (rules, arith, more, still_unfinished)

  ended : (j' : LineView Message) → j' ≡ with_sent (record { seat = seat; what = message.Finish }) j
      → SatToTheEnd seat gone j' r
  ended j' e = search (rules, arith, more, jobs_in-append, append-nil, closed_by_finish)

  ended_unsent : (j' : LineView Message) → j' ≡ j → SatToTheEnd seat gone j' r
  ended_unsent j' e = search (rules, arith, closed_without)

  -- whether or not the finish was sent
  pub ended_by : (j' : LineView Message) (o : Result (Unit {0}) (Item Message))
      → MatchResult o (λ _. j' ≡ with_sent (record { seat = seat; what = message.Finish }) j)
      (λ back. (back ≡ record { seat = seat; what = message.Finish }) × (j' ≡ j)) → SatToTheEnd seat gone j' r
  ended_by j' (Ok x) m = ended j' m
  ended_by j' (Err b) m = ended_unsent j' m.1

  pub same_by : (j' : LineView Message) (o : Result (Unit {0}) (Item Message))
      → MatchResult o (λ _. j' ≡ with_sent (record { seat = seat; what = message.Finish }) j) (λ back.
      (back ≡ record { seat = seat; what = message.Finish }) × (j' ≡ j))
      → jobs_in (sent j'.sending) ≡ jobs_in (sent j.sending)
  same_by j' (Ok x) m = no_more_sent j' m
  same_by j' (Err b) m = ap (λ v. jobs_in (sent v.sending)) m.1

abbrev seat_state : LineId Message → LineId Answer → ℕ → List Job → List Answer → Bool → Bool → Bool → SeatState
seat_state jobs replies seat sent heard gone sends takes = record {
  jobs = jobs;
  replies = replies;
  seat = seat;
  sent = sent;
  heard = heard;
  gone = gone;
  sends = sends;
  takes = takes;
}

pub told : (a a' : LineId Message) (b b' : LineId Answer) (seat : ℕ) (s s' : List Job) (h h' : List Answer)
    (g g' last o o' r r' : Bool) (old : SeatState) (ms : List Job) (mh : List Answer)
    → seat_state a b seat s h g o r ≡ old → a' ≡ a → b' ≡ b → s' ≡ s ++ ms → h' ≡ h ++ mh → g' ≡ last → o' ≡ o → r' ≡ r
    → seat_state a' b' seat s' h' g' o' r'
    ≡ seat_state old.jobs old.replies old.seat (old.sent ++ ms) (old.heard ++ mh) last old.sends old.takes
told a a' b b' seat s s' h h' g g' last o o' r r' old ms mh is p q u v w x y = search (rules, arith)

pub told_none : (a a' : LineId Message) (b b' : LineId Answer) (seat : ℕ) (s s' : List Job) (h h' : List Answer)
    (g o o' r r' : Bool) (old : SeatState) (ms : List Job) → seat_state a b seat s h g o r ≡ old → a' ≡ a → b' ≡ b
    → s' ≡ s ++ ms → h' ≡ h → o' ≡ o → r' ≡ false → seat_state a' b' seat s' h' true o' r'
    ≡ seat_state old.jobs old.replies old.seat (old.sent ++ ms) old.heard true old.sends false
told_none a a' b b' seat s s' h h' g o o' r r' old ms is p q u v x y = search (rules, arith)

pub told_nothing : (a a' : LineId Message) (b : LineId Answer) (seat : ℕ) (s s' : List Job) (h : List Answer)
    (g o o' r : Bool) (old : SeatState) → seat_state a b seat s h g o r ≡ old → a' ≡ a → s' ≡ s → o' ≡ o
    → seat_state a' b seat s' h g o' r ≡ old
told_nothing a a' b seat s s' h g o o' r old is p u x = cc

-- ---- what came of a request

held_same : (a b : Ask) → Held a ≡ Held b → a ≡ b
held_same a b e = cc

-- an ask that came back is the one that was asked
pub is_held : (old new : SeatState) (ask : Ask) (secret : List ℕ) (back : Request)
    → Exchanges old (Held ask) secret (Err (Some back)) new → IsHeld back
is_held old new ask secret back e = subst IsHeld (sym e.0) tt

pub asks_back : (old new : SeatState) (ask : Ask) (secret : List ℕ) (back : Request) (held : Ask) → back ≡ Held held
    → Exchanges old (Held ask) secret (Err (Some back)) new → Asks old ask secret (Err (NotSent held)) new
asks_back old new ask secret back held is e = (held_same held ask (sym is ∙ e.0), e.1, e.2)

hears_so : (old new : SeatState) (chunk : GoneChunk) (secret : List ℕ) (r : Result Answer (Option Request))
    → Exchanges old (Gone chunk) secret r new → Hears old (chunk_ask chunk) secret (result_ok r) new
hears_so old new chunk secret (Ok answer) e = e
hears_so old new chunk secret (Err (Some back)) e = (NotSent (chunk_ask chunk), (refl, e.1, e.2))
hears_so old new chunk secret (Err None) e = (NoAnswer, e)

-- what a chunk was answered whose bytes were let go
pub hears_gone : (old new : SeatState) (chunk : GoneChunk) (secret : List ℕ) (r : Result Answer (Option Request))
    (heard : Option Answer) → heard ≡ result_ok r → Exchanges old (Gone chunk) secret r new
    → Hears old (chunk_ask chunk) secret heard new
hears_gone old new chunk secret r heard is e = search (rules, arith, hears_so)
