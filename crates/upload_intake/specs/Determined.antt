-- What the order in which jobs were taken determines.
use Rattle.std.specs.Prelude.{◌≡◌, ℕ, List, [], map}
use Rattle.upload_service.specs.Machine.{State}
use Rattle.upload_keeper.specs.Log.{Step, exchanges_of, taken, HaveMemory}
use Rattle.upload_keeper.specs.Served.{IsServed}
use Rattle.upload_intake.specs.Pools.ServedPool.{Carries, read_and_replied}
use Rattle.upload_wire.specs.Conversation.{WireExchange}

-- What two services from the same state served in the same order: the same answers were given, and the same service is
-- left, if memory wasn't out. What two workers of one seat read and replied on all their connections is the same
-- if the same steps are theirs, and no desk was gone.
pub record ServedOrdersAreDetermined : Type 0 where
  pub by_order : (start one two : State) (steps others : List Step)
      → IsServed start (exchanges_of steps) one → IsServed start (exchanges_of others) two
      → map taken steps ≡ map taken others → HaveMemory steps → HaveMemory others → (steps ≡ others) × (one ≡ two)
  pub by_steps : (seat : ℕ) (steps : List Step) (xs ys : List WireExchange)
      → Carries seat steps xs [] → Carries seat steps ys [] → map read_and_replied xs ≡ map read_and_replied ys
