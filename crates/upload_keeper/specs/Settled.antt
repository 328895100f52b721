-- WHAT THE ENDS OF A SETTLEMENT SAY TOGETHER: what was taken is what was sent, the service and the answers are one
-- run over it, and what was heard is what was answered.
use Rattle.std.specs.Prelude.{◌≡◌, ◌<◌, ℕ, min, false, List, [], ◌++◌, length, get_or}
use Rattle.std.specs.List.{AllByRecursion}
use Rattle.upload_service.specs.declared.answer.Answer.{Answer}
use Rattle.upload_service.specs.Machine.{State}
use Rattle.upload_keeper.specs.Log.{Step, exchanges_of, taken_by, jobs_of, answers_to}
use Rattle.upload_keeper.specs.Seats.{SeatState}
use Rattle.upload_keeper.specs.Typed.{AllTyped}
use Rattle.upload_keeper.specs.Served.{KeeperState, IsServed}

-- the last value of a count, which stays there
abbrev pub count_limit : ℕ
count_limit = 18446744073709551615

-- what a seat heard begins the answers to its jobs, and is all of them if no call of it ended Gone
pub record Heard (number : ℕ) (steps : List Step) (seat : SeatState) : Type 0 where
  pub unheard : List Answer
  pub in_order : answers_to number steps ≡ seat.heard ++ unheard
  pub all : seat.gone ≡ false → unheard ≡ []

-- the jobs of the steps are, of this seat, exactly those that it sent, in its order, each once; and what it heard is in
-- order a prefix of the answers to them
pub record IsSettledSeat (number : ℕ) (steps : List Step) (seat : SeatState) : Type 0 where
  pub sent : jobs_of number (taken_by steps) ≡ seat.sent
  pub heard : Heard number steps seat

pub record IsSettled (keeper : KeeperState) (ends : List SeatState) (service : State) (log_length : ℕ) : Type 0 where
  pub each : (number : ℕ) (d : SeatState) → number < length ends
      → IsSettledSeat number keeper.log (get_or ends number d)
  -- no step is of another seat
  pub seated : AllByRecursion (λ (s : Step). s.seat < length ends) keeper.log
  -- the service is the keeper's, and those steps are a run to it, at moments that don't fall; so the headline holds of
  -- them
  pub same : service ≡ keeper.service
  pub served : IsServed keeper.start (exchanges_of keeper.log) service
  pub typed : AllTyped (exchanges_of keeper.log)
  pub counted : log_length ≡ min (length keeper.log) count_limit
