use Rattle.std.specs.Prelude.{◌≡◌, ◌+◌, ◌≤◌, ◌++◌, vec_len, vec_capacity}
use Rattle.std.specs.Vec.Iter.{into_iter_items, into_iter_len}
use Rattle.upload_intake.specs.Pools.Stations.{promised}
use Rattle.upload_intake.proofs.pool.fn.serve_kept.scope.Given as goal

abbrev pub invariant-loop-station : goal.invariant-loop-station
invariant-loop-station g l = record {
  order : promised l.started.items ++ into_iter_items l.station-iterator ≡ into_iter_items l.initial.station-iterator;
  count : vec_len l.started + into_iter_len l.station-iterator ≡ into_iter_len l.initial.station-iterator;
  room : vec_len l.started + into_iter_len l.station-iterator ≤ vec_capacity l.started;
}
