-- The doors of workers, and how many connections are left to each.
use Rattle.std.specs.Prelude.{ℕ, List, map}
use Rattle.upload_intake.specs.declared.work.Worker.{Worker}
use Rattle.blobd_serve.specs.declared.paced.Demand.{Demand}

-- the connections of a worker: the door that they come through, how many more it takes, and what is asked of their
-- clients
pub record AcceptedState (L : Type 0) : Type 0 where
  pub door : L
  pub left : ℕ
  pub demand : Demand

module _ {L S G O : Type 0} where
  abbrev pub doors_of : List (Worker (AcceptedState L) S G O) → List L
  doors_of workers = map (λ (w : Worker (AcceptedState L) S G O). w.conns.door) workers

  abbrev pub lefts_of : List (Worker (AcceptedState L) S G O) → List ℕ
  lefts_of workers = map (λ (w : Worker (AcceptedState L) S G O). w.conns.left) workers
