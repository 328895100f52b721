-- What the passes of the lines know, and what a keeper keeps from one item to the next.
use Rattle.std.specs.Prelude.{◌≡◌, ◌<◌, ℕ, min, Bool, true, false, List, [], ◌∷◌, ◌++◌, length, get_or}
use Rattle.std.specs.Prelude.{Option, Some, None, IsSome, Result, Ok, Err, ◌⊎◌}
use Rattle.std.specs.List.{AllByRecursion}
use Rattle.upload_service.specs.declared.answer.Answer.{Answer}
use Rattle.upload_service.specs.declared.ask.Request.{Request}
use Rattle.upload_service.specs.declared.ask.Request.TheVariants as requests
use Rattle.upload_service.specs.Requests.{ask_in}
use Rattle.upload_service.specs.Machine.{State, IsLawful}
use Rattle.upload_service.specs.Run.{Run, NeverFall}
use Rattle.upload_keeper.specs.declared.keeper.Books.{Books}
use Rattle.upload_keeper.specs.declared.line.Item.{Item}
use Rattle.upload_keeper.specs.declared.line.LineView.{LineView}
use Rattle.upload_keeper.specs.declared.message.Message.{Message}
use Rattle.upload_keeper.specs.declared.message.Message.TheVariants as message
use Rattle.upload_keeper.specs.declared.reply.ReplyLine.{ReplyLine}
use Rattle.upload_keeper.specs.declared.seat.Place.{Place}
use Rattle.crossbeam_channel.specs.Claims.{view}
use Rattle.crossbeam_channel.specs.Ends.{sends_on, receives_on}
use Rattle.upload_keeper.specs.Line.{items_of, sent}
use Rattle.upload_keeper.specs.Log.{Job, TakenJob, Step, steps_of, exchanges_of, taken_by, answers_to, last_moment}
use Rattle.upload_keeper.specs.Passes.{line_of, sender_view, taker_view, whats}
use Rattle.upload_keeper.specs.Seats.{SeatState}
use Rattle.upload_keeper.specs.Typed.{AllTyped}
use Rattle.upload_keeper.specs.Settled.{count_limit}

-- the jobs among what lies on a line
abbrev pub jobs_in : List Message → List Job
jobs_in [] = []
jobs_in (message.Job request secret ∷ ms) = (ask_in request, secret) ∷ jobs_in ms
jobs_in (message.Wish wish ∷ ms) = jobs_in ms
jobs_in (message.Finish ∷ ms) = jobs_in ms

abbrev pub add_job : ℕ → Message → List TakenJob → List TakenJob
add_job seat (message.Job request secret) taken = record { seat = seat; job = (ask_in request, secret) } ∷ taken
add_job seat (message.Wish wish) taken = taken
add_job seat message.Finish taken = taken

abbrev pub taken_in : List (Item Message) → List TakenJob
taken_in [] = []
taken_in (x ∷ xs) = add_job x.seat x.what (taken_in xs)

abbrev pub has_finish : List Message → Bool
has_finish [] = false
has_finish (message.Finish ∷ ms) = true
has_finish (message.Job request secret ∷ ms) = has_finish ms
has_finish (message.Wish wish ∷ ms) = has_finish ms

abbrev pub is_empty : List Message → Bool
is_empty [] = true
is_empty (m ∷ ms) = false

-- nothing follows a finish
abbrev pub is_closed : List Message → Bool
is_closed [] = true
is_closed (message.Finish ∷ ms) = is_empty ms
is_closed (message.Job request secret ∷ ms) = is_closed ms
is_closed (message.Wish wish ∷ ms) = is_closed ms

-- the seat at this place
abbrev pub seat_at : Place → SeatState
seat_at place = record {
  jobs = line_of (sends_on place.jobs.sender);
  replies = line_of (receives_on place.replies.receiver);
  seat = place.seat;
  sent = jobs_in (sent (view place.jobs.pass).sending);
  heard = whats (view place.replies.pass).taken;
  gone = place.gone;
  sends = place.jobs.is_open;
  takes = place.replies.is_open;
}

-- What a seat's passes know: what it sent, what it got, and that a seat which isn't gone got a reply to each job.
pub record Knows (seat : ℕ) (gone : Bool) (jobs : LineView Message) (replies : LineView Answer)
    (sent : List Message) : Type 0 where
  pub got : List (Item Answer)
  pub jobs_view : jobs ≡ sender_view seat sent
  pub replies_view : replies ≡ taker_view 1 got
  pub of_one : items_of 0 got ≡ whats got
  pub each_answered : gone ≡ false → length got ≡ length (jobs_in sent)

-- a seat that hasn't finished
pub record Sits (seat : ℕ) (gone : Bool) (jobs : LineView Message) (replies : LineView Answer) : Type 0 where
  pub sent : List Message
  pub knows : Knows seat gone jobs replies sent
  pub unfinished : has_finish sent ≡ false

-- a seat that sends no more
pub record SatToTheEnd (seat : ℕ) (gone : Bool) (jobs : LineView Message) (replies : LineView Answer) : Type 0 where
  pub sent : List Message
  pub knows : Knows seat gone jobs replies sent
  pub finished_last : is_closed sent ≡ true

-- The keeper's end of a reply line: whether it is open, what its pass knows, what is held back, and whether its seat
-- asked again before it heard.
pub record Outlet : Type 0 where
  pub is_open : Bool
  pub view : LineView Answer
  pub held : Option Answer
  pub is_crowded : Bool

-- what is held back
abbrev pub held_in : Option Answer → List Answer
held_in None = []
held_in (Some answer) = answer ∷ []

abbrev pub outlet_of : ReplyLine → Outlet
outlet_of line = record {
  is_open = line.replies.is_open;
  view = view line.replies.pass;
  held = line.held;
  is_crowded = line.is_crowded;
}

-- what wasn't sent is what is held back, but for a seat that didn't wait: then that is more than one
abbrev pub IsOwed : Bool → Option Answer → List Answer → Type 0
IsOwed false held unsent = unsent ≡ held_in held
IsOwed true held unsent = 1 < length unsent

-- the replies sent begin the answers to a seat, and are all of them but for what is owed, while the line is open
pub record Replied (seat : ℕ) (steps : List Step) (outlet : Outlet) : Type 0 where
  pub replies : List Answer
  pub unsent : List Answer
  pub view : outlet.view ≡ sender_view 0 replies
  pub in_order : answers_to seat steps ≡ replies ++ unsent
  pub all : outlet.is_open ≡ true → IsOwed outlet.is_crowded outlet.held unsent

-- a pass took a seat's finish
abbrev pub TookFinish : ℕ → LineView Message → Type 0
TookFinish seat view = has_finish (items_of seat view.taken) ≡ true

-- what a keeper keeps of a seat: what it replied, and that it took the finish of one that is done
pub record KeepsSeat (seat : ℕ) (steps : List Step) (jobs : LineView Message) (line : ReplyLine) : Type 0 where
  pub replied : Replied seat steps (outlet_of line)
  pub finish : line.is_done ≡ true → TookFinish seat jobs

-- A keeper's account of its service: the one that it was given and the moment that it began at, the one that it has,
-- the moment of the last step, how many steps it counted, and the steps in its log.
pub record Ledger : Type 0 where
  pub start : State
  pub since : ℕ
  pub service : State
  pub now : ℕ
  pub count : ℕ
  pub steps : List Step

-- what a keeper keeps of its service, over what its pass took
pub record Keeps (ledger : Ledger) (taken : List (Item Message)) : Type 0 where
  pub lawful : IsLawful ledger.start
  pub run : Run ledger.start (exchanges_of ledger.steps) ledger.service
  pub moments : NeverFall (exchanges_of ledger.steps)
  pub last : last_moment ledger.since (exchanges_of ledger.steps) ≡ ledger.now
  pub typed : AllTyped (exchanges_of ledger.steps)
  pub is_taken : taken_by ledger.steps ≡ taken_in taken
  pub counted : ledger.count ≡ min (length ledger.steps) count_limit

-- a pass receives from so many seats
pub record Receives (seats : ℕ) (view : LineView Message) : Type 0 where
  pub taken : List (Item Message)
  pub is_taker : view ≡ taker_view seats taken

abbrev pub AreOfSeats : ℕ → List Step → Type 0
AreOfSeats seats steps = AllByRecursion (λ (s : Step). s.seat < seats) steps

-- a keeper that runs, with a reply line for each seat
pub record IsKeeping (ledger : Ledger) (jobs : LineView Message) (lines : List ReplyLine) : Type 0 where
  pub keeps : Keeps ledger jobs.taken
  pub receives : Receives (length lines) jobs
  pub seated : AreOfSeats (length lines) ledger.steps
  pub each : (seat : ℕ) (d : ReplyLine) → seat < length lines → KeepsSeat seat ledger.steps jobs (get_or lines seat d)

-- what a keeper's books say of its service, and the books of one that runs
abbrev pub ledger_of : Books → Ledger
ledger_of books = record {
  start = books.start.value;
  since = books.since;
  service = books.service;
  now = books.now;
  count = books.count;
  steps = steps_of books.log;
}

abbrev pub AreKept : Books → Type 0
AreKept books = IsKeeping (ledger_of books) (view books.jobs.pass) books.lines.items

abbrev pub AreDone : List ReplyLine → Type 0
AreDone lines = (seat : ℕ) (d : ReplyLine) → seat < length lines → (get_or lines seat d).is_done ≡ true

-- an answer is held back, if none was; else it is one that its seat didn't wait for
pub data Holds (answer : Answer) (old new : Outlet) : Type 0 where
  Held : old.is_crowded ≡ false → old.held ≡ None → new ≡ record old { held = Some answer } → Holds answer old new
  Crowded : old.is_crowded ≡ false → IsSome old.held → new ≡ record old { is_crowded = true } → Holds answer old new
  Again : old.is_crowded ≡ true → new ≡ old → Holds answer old new

-- what was held back was sent on a line that is open; or nothing is sent from now on; or nothing was to be sent
pub data Sends (old new : Outlet) : Type 0 where
  Sent : (answer : Answer) → old.is_crowded ≡ false → old.held ≡ Some answer → old.is_open ≡ true → new.held ≡ None
      → new.is_crowded ≡ false
      → ((replies : List Answer) → old.view ≡ sender_view 0 replies → new.view ≡ sender_view 0 (replies ++ answer ∷ []))
      → Sends old new
  Closed : new.is_open ≡ false → new.view ≡ old.view → Sends old new
  Still : new ≡ old → Sends old new

-- One request of a seat, with what came of it. An answer comes only if no call ended Gone; it adds the job and the
-- answer. A request that comes back adds nothing: an earlier call ended Gone, or the line handed it back. None says
-- that no answer came, and adds the job alone. After both the seat is gone.
abbrev pub Exchanges : SeatState → Request → List ℕ → Result Answer (Option Request) → SeatState → Type 0
Exchanges old request secret (Ok answer) new =
    (old.gone ≡ false)
    × (new ≡ record old { sent = old.sent ++ (ask_in request, secret) ∷ []; heard = old.heard ++ answer ∷ [] })
Exchanges old request secret (Err (Some back)) new =
    (back ≡ request) × (new ≡ record old { gone = true; sends = new.sends })
    × (((old.gone ≡ true) × (new.sends ≡ old.sends)) ⊎ (new.sends ≡ false))
Exchanges old request secret (Err None) new =
    (old.gone ≡ false)
    × (new ≡ record old { sent = old.sent ++ (ask_in request, secret) ∷ []; gone = true; takes = false })

abbrev pub IsHeld : Request → Type 0
IsHeld (requests.Held ask) = Unit {0}
IsHeld (requests.Gone chunk) = ⊥

abbrev pub IsJob : Message → Type 0
IsJob (message.Job request secret) = Unit {0}
IsJob (message.Wish wish) = ⊥
IsJob message.Finish = ⊥
