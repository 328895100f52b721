-- A keeper: its lines, the service that it was given and the moment that it began at, the service that it has now, and
-- the steps by which it came there.
use Rattle.std.specs.Prelude.{◌≡◌, ◌<◌, ℕ, List, map, length, get_or}
use Rattle.crossbeam_channel.specs.Ends.{receives_on}
use Rattle.upload_service.specs.declared.answer.Answer.{Answer}
use Rattle.upload_service.specs.Machine.{State}
use Rattle.upload_service.specs.Run.{Exchange, Run, NeverFall}
use Rattle.upload_service.specs.Headline.{Headline}
use Rattle.upload_keeper.specs.declared.keeper.Books.{Books}
use Rattle.upload_keeper.specs.declared.message.Message.{Message}
use Rattle.upload_keeper.specs.Log.{Step, steps_of, exchanges_of}
use Rattle.upload_keeper.specs.Passes.{LineId, line_of}
use Rattle.upload_keeper.specs.Replies.{replies_on}
use Rattle.upload_keeper.specs.Seats.{SeatState}

pub record KeeperState : Type 0 where
  pub jobs : LineId Message
  pub replies : List (LineId Answer)
  pub start : State
  pub since : ℕ
  pub service : State
  pub log : List Step

-- a keeper with these books
abbrev pub keeper_with : Books → KeeperState
keeper_with books = record {
  jobs = line_of (receives_on books.jobs.receiver);
  replies = map replies_on books.lines.items;
  start = books.start.value;
  since = books.since;
  service = books.service;
  log = steps_of books.log;
}

-- the same lines, and the same service and moment at the start
pub record IsSameKeeper (old new : KeeperState) : Type 0 where
  pub jobs : new.jobs ≡ old.jobs
  pub replies : new.replies ≡ old.replies
  pub start : new.start ≡ old.start
  pub since : new.since ≡ old.since

-- The exchanges are a run of the service, at moments that don't fall; so the headline holds of it.
pub record IsServed (start : State) (exchanges : List Exchange) (service : State) : Type 0 where
  pub run : Run start exchanges service
  pub moments : NeverFall exchanges
  pub headline : Headline start exchanges service

-- the keeper's log is a run from the service that it was given to the one that it has
abbrev pub LogIsServed : KeeperState → Type 0
LogIsServed keeper = IsServed keeper.start (exchanges_of keeper.log) keeper.service

-- a seat is the keeper's, with this number
pub record IsSeatOf (keeper : KeeperState) (number : ℕ) (seat : SeatState) : Type 0 where
  pub jobs : seat.jobs ≡ keeper.jobs
  pub replies : (d : LineId Answer) → seat.replies ≡ get_or keeper.replies number d
  pub number_is : seat.seat ≡ number

-- the seats and the keeper are of one call of `lines`, in this order
pub record AreOfOneCall (keeper : KeeperState) (seats : List SeatState) : Type 0 where
  pub count : length seats ≡ length keeper.replies
  pub each : (number : ℕ) (d : SeatState) → number < length seats → IsSeatOf keeper number (get_or seats number d)
