-- A push that heard all from one worker.
use Rattle.std.specs.Prelude.{◌≡◌, ◌≢◌, ◌<◌, ℕ, List, [], ◌∷◌, ◌++◌, length, Option, Some, None}
use Rattle.std.specs.List.{flat_map}
use Rattle.upload_service.specs.Machine.{AreLawful, IsLawful}
use Rattle.upload_service.specs.declared.ask.Ask.{Ask}
use Rattle.upload_client.specs.declared.heard.Heard.{Heard}
use Rattle.upload_intake.specs.Pools.ServedPool.{Given, Left, IsServedPool}
use Rattle.upload_intake.specs.Pools.Working.{Lending, Means, Lent}
use Rattle.upload_intake.specs.declared.work.WorkerEnd.{WorkerEnd}
use Rattle.upload_push.specs.Slices.{Push}
use Rattle.upload_push.specs.Slices as push
use Rattle.upload_push.specs.declared.pusher.Outcome.TheVariants.{Pushed, Already}
use Rattle.upload_push.specs.declared.pusher.Phase.TheVariants.{Done}
use Rattle.wire_laws.specs.Joined.{TransportCall}
use Rattle.end_to_end.specs.Marks.{asked_and_told, heard_by}
use Rattle.end_to_end.specs.Network.{IsAccount, IsFor, IsFoundThere, IsLeftThere, Whose}

-- what was heard to these asks, in turn
abbrev pub told_in : List TransportCall → List (Ask × Heard)
told_in [] = []
told_in (x ∷ xs) = asked_and_told x.ask x.heard ++ told_in xs

-- what the push asked over a connection of a worker, if that is one of the push's
abbrev pub asks_over : {L : Lending} {S G O : Type 0} (m : Means L S G O) (max_body : ℕ) (log : List push.Attempt)
    → Whose m max_body log → List TransportCall
asks_over m max_body log (t, None) = []
asks_over m max_body log (t, Some c) = c.asks

module _ {L : Lending} {S G O M : Type 0} (m : Means L S G O) (tells : M → ℕ → M → Type 0)
    (given : Given M (Lent L S G O)) (left : Left M (Lent L S G O)) (pool : IsServedPool m tells given left)
    (p : Push) (log : List push.Attempt) (account : IsAccount m tells given left pool p log) where
  -- what the push heard over these connections, one behind the other
  abbrev pub heard_over : List (Whose m given.service.limits.max_body log) → List (Ask × Heard)
  heard_over ws = told_in (flat_map (asks_over m given.service.limits.max_body log) ws)

  -- All that the push heard came from one worker: it heard it over the connections of that worker, in the order in
  -- which the worker took them, and nothing over those of another.
  pub record IsHeardFromOne : Type 0 where
    pub at : ℕ
    pub within : at < length given.workers
    pub here : (worker : Lent L S G O) (end : WorkerEnd) (inside : at < length given.workers)
        → heard_over (account.seats at worker end inside).whose ≡ heard_by log
    pub elsewhere : (seat : ℕ) (worker : Lent L S G O) (end : WorkerEnd) (inside : seat < length given.workers)
        → seat ≢ at → heard_over (account.seats seat worker end inside).whose ≡ []

-- FROM END TO END, of a push that heard all from one worker, as over one connection: that it was served in the order in
-- which it was asked is no premise.
pub record PushesToOneAreServed {L : Lending} {S G O M : Type 0} (m : Means L S G O)
    (tells : M → ℕ → M → Type 0) : Type 0 where
  pub pushed : (given : Given M (Lent L S G O)) (left : Left M (Lent L S G O))
      (pool : IsServedPool m tells given left) (p : Push)
      (told : List (Option Heard)) → IsLawful given.service → AreLawful given.service.limits → push.IsLawfulPush p
      → IsFor given.service.limits.max_body p → (push.after_all p told).phase ≡ Done Pushed
      → (account : IsAccount m tells given left pool p (push.log_of p told))
      → IsHeardFromOne m tells given left pool p (push.log_of p told) account
      → IsLeftThere p given.service pool.steps left.service
  pub already : (given : Given M (Lent L S G O)) (left : Left M (Lent L S G O))
      (pool : IsServedPool m tells given left) (p : Push)
      (told : List (Option Heard)) → IsLawful given.service → AreLawful given.service.limits → push.IsLawfulPush p
      → IsFor given.service.limits.max_body p → (push.after_all p told).phase ≡ Done Already
      → (account : IsAccount m tells given left pool p (push.log_of p told))
      → IsHeardFromOne m tells given left pool p (push.log_of p told) account
      → IsFoundThere p given.service pool.steps left.service
