-- How a keeper's log grows: at which moments, by what a clock told.
use Rattle.std.specs.Prelude.{◌≡◌, ℕ, max, List, [], ◌∷◌, ◌++◌}
use Rattle.upload_service.specs.Run.{Exchange}
use Rattle.upload_keeper.specs.Log.{Step, exchanges_of, last_moment}
use Rattle.upload_keeper.specs.Served.{KeeperState}

-- The clock was asked once for each exchange, from old to new, and each is at the greater of what it told and the
-- moment before.
abbrev pub Told : {M : Type 0} → (M → ℕ → M → Type 0) → ℕ → M → List Exchange → M → Type 0
Told tells before old [] new = new ≡ old
Told {M} tells before old (x ∷ xs) new =
    (told : ℕ) × (mid : M) × tells old told mid × (x.now ≡ max before told) × Told tells x.now mid xs new

-- the keeper's log grew by these steps, at the moments that its clock told
pub record Grows {M : Type 0} (tells : M → ℕ → M → Type 0) (old : KeeperState) (before : M) (new : KeeperState)
    (after : M) : Type 0 where
  pub more : List Step
  pub log : new.log ≡ old.log ++ more
  pub told : Told tells (last_moment old.since (exchanges_of old.log)) before (exchanges_of more) after
