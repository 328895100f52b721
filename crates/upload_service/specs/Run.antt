-- Runs of the service: requests and answers, one turn after another.
use Rattle.std.specs.Prelude.{◌≡◌, ℕ, ◌≤◌, List, [], ◌∷◌}
use Rattle.upload_service.specs.declared.ask.Ask.{Ask}
use Rattle.upload_service.specs.declared.answer.Answer.{Answer}
use Rattle.upload_service.specs.Machine.{State, Turn}

-- a request with the secret that came with it, the moment when it was served, and the answer it got
pub record Exchange : Type 0 where
  pub ask : Ask
  pub secret : List ℕ
  pub now : ℕ
  pub answer : Answer

-- the service may give these answers, one turn after another
abbrev pub Run : State → List Exchange → State → Type 0
Run old [] new = new ≡ old
Run old (x ∷ xs) new = (mid : State) × Turn old x.ask x.secret x.now x.answer mid × Run mid xs new

-- the moments don't fall, and none is before this one
abbrev pub NeverBefore : ℕ → List Exchange → Type 0
NeverBefore moment [] = Unit {0}
NeverBefore moment (x ∷ xs) = (moment ≤ x.now) × NeverBefore x.now xs

-- the moments in the list don't fall
abbrev pub NeverFall : List Exchange → Type 0
NeverFall xs = NeverBefore 0 xs

-- the exchanges of these requests and these answers
abbrev pub exchanges : List (Ask × List ℕ × ℕ) → List Answer → List Exchange
exchanges [] answered = []
exchanges (job ∷ jobs) [] = []
exchanges (job ∷ jobs) (answer ∷ answered) =
    record { ask = job.0; secret = job.1; now = job.2; answer = answer } ∷ exchanges jobs answered
