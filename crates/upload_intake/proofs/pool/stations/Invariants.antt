use Rattle.std.specs.Prelude.{◌≡◌, ◌++◌, All, length}
use Rattle.std.specs.Vec.Iter.{into_iter_items}
use Rattle.upload_intake.specs.Pools.Stations.{seats_of, workers_of, limits_of}
use Rattle.upload_intake.proofs.pool.stations.Given as goal

abbrev pub invariant-loop-worker : goal.invariant-loop-worker
invariant-loop-worker g l = record {
  seats : seats_of l.stations.items ++ into_iter_items l.seats ≡ into_iter_items l.initial.seats;
  workers : workers_of l.stations.items ++ into_iter_items l.worker-iterator
      ≡ into_iter_items l.initial.worker-iterator;
  servers : All (λ n. n ≡ l.limits.max_body) (limits_of l.stations.items);
  len : length (into_iter_items l.seats) ≡ length (into_iter_items l.worker-iterator);
}
