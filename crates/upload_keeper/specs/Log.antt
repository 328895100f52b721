-- What the keeper took from its seats and answered, as one list.
use Rattle.std.specs.Prelude.{◌≢◌, ℕ, ◌==◌, List, [], ◌∷◌, map, filter}
use Rattle.std.specs.List.{AllByRecursion}
use Rattle.upload_service.specs.declared.ask.Ask.{Ask}
use Rattle.upload_service.specs.declared.answer.Answer.{Answer}
use Rattle.upload_service.specs.declared.answer.Answer.TheVariants.{NoMemory}
use Rattle.upload_service.specs.Requests.{ask_in}
use Rattle.upload_service.specs.Run.{Exchange}
use Rattle.upload_keeper.specs.declared.log.Entry.{Entry}

-- a job: a request, and the secret for the session that it may open
abbrev pub Job : Type 0
Job = Ask × List ℕ

-- a job that was taken, and from which seat it came
pub record TakenJob : Type 0 where
  pub seat : ℕ
  pub job : Job

-- one step of the service: from which seat the job came, and what was asked and answered at which moment
pub record Step : Type 0 where
  pub seat : ℕ
  pub exchange : Exchange

-- an entry of a keeper's log as a step
abbrev pub step_of : Entry → Step
step_of e = record {
  seat = e.seat;
  exchange = record { ask = ask_in e.request.value; secret = e.secret; now = e.now; answer = e.answer.value };
}

abbrev pub steps_of : List Entry → List Step
steps_of entries = map step_of entries

abbrev pub exchanges_of : List Step → List Exchange
exchanges_of steps = map (λ (s : Step). s.exchange) steps

-- the jobs that the steps are of
abbrev pub job_of : Exchange → Job
job_of x = (x.ask, x.secret)

abbrev pub taken_by : List Step → List TakenJob
taken_by steps = map (λ (s : Step). record { seat = s.seat; job = job_of s.exchange }) steps

-- one seat's jobs, and the answers to them, in the order in which they were taken
abbrev pub jobs_of : ℕ → List TakenJob → List Job
jobs_of seat taken = map (λ (j : TakenJob). j.job) (filter (λ (j : TakenJob). seat == j.seat) taken)

abbrev pub answers_to : ℕ → List Step → List Answer
answers_to seat steps = map (λ (s : Step). s.exchange.answer) (filter (λ (s : Step). seat == s.seat) steps)

-- the moment of the last exchange, and this one before the first
abbrev pub last_moment : ℕ → List Exchange → ℕ
last_moment moment [] = moment
last_moment moment (x ∷ xs) = last_moment x.now xs

-- a step but for its answer: from which seat the job came, what it asked, with which secret, and at which moment it was
-- served
abbrev pub taken : Step → ℕ × (Ask × (List ℕ × ℕ))
taken s = (s.seat, (s.exchange.ask, (s.exchange.secret, s.exchange.now)))

-- no answer was out of memory
abbrev pub HaveMemory : List Step → Type 0
HaveMemory steps = AllByRecursion (λ (s : Step). s.exchange.answer ≢ NoMemory) steps
