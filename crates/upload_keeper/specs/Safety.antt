-- WHAT HOLDS AT EVERY MOMENT, also of a keeper that never ends: what is kept is a run of which the headline holds.
use Rattle.std.specs.Prelude.{◌≡◌, ◌≤◌, ℕ, Bool, true, false, List, ◌∷◌, ◌++◌, filter}
use Rattle.upload_service.specs.declared.ask.Ask.{Ask}
use Rattle.upload_service.specs.declared.answer.Answer.{Answer}
use Rattle.upload_service.specs.declared.answer.Answer.TheVariants as answers
use Rattle.upload_service.specs.Machine.{State, IsLawful}
use Rattle.upload_service.specs.Run.{Exchange, Run, NeverFall}
use Rattle.upload_keeper.specs.Log.{Step, exchanges_of, last_moment}
use Rattle.upload_keeper.specs.Served.{KeeperState, IsServed}

-- a request that is about to be served, with its secret and the moment
pub record Asked : Type 0 where
  pub ask : Ask
  pub secret : List ℕ
  pub now : ℕ

abbrev pub asked : Ask → List ℕ → ℕ → Asked
asked ask secret now = record { ask = ask; secret = secret; now = now }

-- with its answer
abbrev pub answered_so : Asked → Answer → Exchange
answered_so a answer = record { ask = a.ask; secret = a.secret; now = a.now; answer = answer }

-- whether an answer tells that the service changed: each other answer leaves it as it was
abbrev pub changes : Answer → Bool
changes (answers.Begun name at) = true
changes (answers.Taken name at next) = true
changes (answers.Stored name digest) = true
changes other = false

abbrev pub changed : List Exchange → List Exchange
changed xs = filter (λ (x : Exchange). changes x.answer) xs

-- the exchanges are a run from this service, of which the headline holds
abbrev pub IsSafe : State → List Exchange → Type 0
IsSafe start exchanges = (service : State) × IsServed start exchanges service

-- what is kept leads from a lawful service to this one, at moments that don't fall, none behind this one
pub record Leads (start : State) (kept : List Exchange) (now : ℕ) (service : State) : Type 0 where
  pub lawful : IsLawful start
  pub run : Run start kept service
  pub moments : NeverFall kept
  pub last : last_moment 0 kept ≤ now
  -- nothing else is kept
  pub only : changed kept ≡ kept

-- An answer may be heard: it stands in a run from that service, of which the headline holds, what changed in this run
-- is just what is kept, and none of its moments is after what is promised.
pub record MayBeHeard (start : State) (kept : List Exchange) (upto : ℕ) (answer : Answer) : Type 0 where
  pub front : List Exchange
  pub x : Exchange
  pub rest : List Exchange
  pub service : State
  pub served : IsServed start (front ++ x ∷ rest) service
  pub changes_are_kept : changed (front ++ x ∷ rest) ≡ kept
  pub promised : last_moment 0 (front ++ x ∷ rest) ≤ upto
  pub answer_is : x.answer ≡ answer

-- the moment of a keeper: of its last exchange, or else the one that it began at
abbrev pub now_of : KeeperState → ℕ
now_of keeper = last_moment keeper.since (exchanges_of keeper.log)

-- what is kept leads to a keeper's service
abbrev pub LeadsTo : State → List Exchange → KeeperState → Type 0
LeadsTo start kept keeper = Leads start kept (now_of keeper) keeper.service

-- The same, and the exchanges before the keeper's and then those of its log are a run, of which what changed is kept.
-- Its moment is not after this one.
pub record Follows (start : State) (kept : List Exchange) (upto : ℕ) (keeper : KeeperState) : Type 0 where
  pub leads : LeadsTo start kept keeper
  pub by : now_of keeper ≤ upto
  pub earlier : List Exchange
  pub run : Run start (earlier ++ exchanges_of keeper.log) keeper.service
  pub moments : NeverFall (earlier ++ exchanges_of keeper.log)
  pub last : last_moment 0 (earlier ++ exchanges_of keeper.log) ≤ now_of keeper
  pub whole : changed (earlier ++ exchanges_of keeper.log) ≡ kept

-- of the steps by which a keeper's log grew, those that changed something were kept, in order
pub record KeptSince (old : KeeperState) (before : List Exchange) (new : KeeperState) (after : List Exchange)
    : Type 0 where
  pub more : List Step
  pub log : new.log ≡ old.log ++ more
  pub kept : after ≡ before ++ changed (exchanges_of more)
