-- A served pool whose changes were kept.
use Rattle.std.specs.Prelude.{◌≡◌, ℕ, List, ◌++◌}
use Rattle.upload_service.specs.Run.{Exchange}
use Rattle.upload_keeper.specs.Log.{exchanges_of}
use Rattle.upload_intake.specs.Pools.Working.{Lending, Means, Lent}
use Rattle.upload_intake.specs.Pools.ServedPool.{Given, Left, IsServedSince}
use Rattle.upload_keeper.specs.Safety.{changed}

-- the pool is served from this moment on, and of its steps those that changed something were kept, in their order
pub record IsKeptPool {L : Lending} {S G O M : Type 0} (m : Means L S G O) (tells : M → ℕ → M → Type 0) (since : ℕ)
    (given : Given M (Lent L S G O)) (left : Left M (Lent L S G O)) (before after : List Exchange) : Type 0 where
  pub served : IsServedSince m tells since given left
  pub kept : after ≡ before ++ changed (exchanges_of served.steps)
