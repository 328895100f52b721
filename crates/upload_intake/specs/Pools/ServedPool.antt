-- THE SERVED POOL, read aloud: each worker has a seat, and was given connections, one behind the other; what it read
-- and wrote on each is a conversation. What all these conversations asked was served by one service in one order, and
-- nothing else was. In it stand each worker's requests, in the order in which it read them, each once, with the answers
-- that it wrote. At moments that the clock told, and that don't fall, this order takes the service that was handed in
-- to the one handed back, and the headline holds of it. Each worker's gate was told of its requests and their answers,
-- in the order in which it read them, and its observer of each head and of each reply on its connections. What each
-- worker was lent is handed back as it became by that.
use Rattle.std.specs.Prelude.{◌≡◌, ℕ, ◌<◌, ◌==◌, ◌⊎◌, List, [], ◌++◌, map, filter, length, get_or}
use Rattle.std.specs.List.{AllByRecursion}
use Rattle.upload_service.specs.declared.ask.Ask.{Ask}
use Rattle.upload_service.specs.declared.answer.Answer.{Answer}
use Rattle.upload_service.specs.Machine.{State}
use Rattle.upload_intake.specs.declared.work.WorkerEnd.{WorkerEnd}
use Rattle.upload_keeper.specs.Log.{Step, exchanges_of, taken_by, jobs_of}
use Rattle.upload_keeper.specs.Seats.{SeatState, IsFresh}
use Rattle.upload_keeper.specs.Served.{IsServed}
use Rattle.upload_keeper.specs.Told.{Told}
use Rattle.upload_keeper.specs.Typed.{AllTyped}
use Rattle.upload_intake.specs.Pools.Working.{Lending, Means, Lent, IsWorked, all_answered, all_unanswered}
use Rattle.upload_wire.specs.Conversation.{WireExchange}

-- the steps of one seat, and what was asked and answered by a step, and by an exchange of a conversation
abbrev pub of_seat : ℕ → List Step → List Step
of_seat seat steps = filter (λ (s : Step). seat == s.seat) steps

abbrev pub asked_and_answered : Step → Ask × Answer
asked_and_answered s = (s.exchange.ask, s.exchange.answer)

abbrev pub read_and_replied : WireExchange → Ask × Answer
read_and_replied x = (x.ask, x.answer)

abbrev pub asks : List Step → List Ask
asks steps = map (λ (s : Step). s.exchange.ask) steps

-- One seat's steps are the exchanges of its conversations, in order, each once; and behind them at most the request at
-- which the desk was gone, if that one was sent: nobody heard its answer.
pub record Carries (seat : ℕ) (steps : List Step) (answered : List WireExchange) (unanswered : List Ask) : Type 0 where
  pub unheard : List Step
  pub in_order : map asked_and_answered (of_seat seat steps)
      ≡ map read_and_replied answered ++ map asked_and_answered unheard
  pub lost : (asks unheard ≡ []) ⊎ (asks unheard ≡ unanswered)

-- a worker as it was handed in, as it was handed back, and its two counts
pub record Part (L : Lending) (S G O : Type 0) : Type 0 where
  pub lent : Lent L S G O
  pub back : Lent L S G O
  pub end : WorkerEnd

-- The part of the worker on a seat: what it served over a seat that had asked nothing, the steps that its conversations
-- are, and the jobs among them with the secrets that it drew.
pub record HasPart {L : Lending} {S G O : Type 0} (m : Means L S G O) (max_body : ℕ) (seat : ℕ) (steps : List Step)
    (part : Part L S G O) : Type 0 where
  pub old : SeatState
  pub new : SeatState
  pub fresh : IsFresh old
  pub worked : IsWorked m max_body part.lent old part.back new part.end
  pub carried : Carries seat steps (all_answered m max_body worked.talks) (all_unanswered m max_body worked.talks)
  pub sent : jobs_of seat (taken_by steps) ≡ new.sent

-- what is handed to a pool, and what it hands back: the workers and their counts are in the order of their seats
pub record Given (M W : Type 0) : Type 0 where
  pub service : State
  pub moments : M
  pub workers : List W

pub record Left (M W : Type 0) : Type 0 where
  pub service : State
  pub moments : M
  pub workers : List W
  pub ends : List WorkerEnd

-- a pool that began at this moment
pub record IsServedSince {L : Lending} {S G O M : Type 0} (m : Means L S G O) (tells : M → ℕ → M → Type 0) (since : ℕ)
    (given : Given M (Lent L S G O)) (left : Left M (Lent L S G O)) : Type 0 where
  pub steps : List Step
  -- no step is of another seat
  pub seated : AllByRecursion (λ (s : Step). s.seat < length given.workers) steps
  pub all_back : length left.workers ≡ length given.workers
  pub counted : length left.ends ≡ length given.workers
  pub parts : (seat : ℕ) (worker : Lent L S G O) (end : WorkerEnd) → seat < length given.workers
      → HasPart m given.service.limits.max_body seat steps (record {
        lent = get_or given.workers seat worker;
        back = get_or left.workers seat worker;
        end = get_or left.ends seat end;
      })
  pub served : IsServed given.service (exchanges_of steps) left.service
  pub typed : AllTyped (exchanges_of steps)
  pub told : Told tells since given.moments (exchanges_of steps) left.moments

-- a pool that began at moment 0
abbrev pub IsServedPool : {L : Lending} {S G O M : Type 0} → Means L S G O → (M → ℕ → M → Type 0)
    → Given M (Lent L S G O) → Left M (Lent L S G O) → Type 0
IsServedPool m tells given left = IsServedSince m tells 0 given left
