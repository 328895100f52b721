use Rattle.std.specs.Prelude.{◌≡◌, ◌+◌, ◌≤◌, ◌++◌, length, vec_len, vec_capacity}
use Rattle.std.specs.Vec.Iter.{into_iter_items, into_iter_len}
use Rattle.upload_intake.specs.Pools.Stations.{promised, EachWorks}
use Rattle.upload_intake.specs.Pools.Working.{lending, means}
use Rattle.upload_intake.proofs.pool.join_all.Given as goal

abbrev pub invariant-loop-worker : goal.invariant-loop-worker
invariant-loop-worker g l = record {
  order : promised l.yielded ++ promised (into_iter_items l.worker-iterator)
      ≡ promised (into_iter_items l.initial.worker-iterator);
  joined : length l.yielded ≡ vec_len l.ends.seats;
  seats : vec_len l.ends.seats + into_iter_len l.worker-iterator ≡ into_iter_len l.initial.worker-iterator;
  workers : vec_len l.ends.workers ≡ vec_len l.ends.seats;
  ends : vec_len l.ends.ends ≡ vec_len l.ends.seats;
  seat_room : vec_len l.ends.seats + into_iter_len l.worker-iterator ≤ vec_capacity l.ends.seats;
  worker_room : vec_len l.ends.workers + into_iter_len l.worker-iterator ≤ vec_capacity l.ends.workers;
  end_room : vec_len l.ends.ends + into_iter_len l.worker-iterator ≤ vec_capacity l.ends.ends;
  each : EachWorks (means (lending g.C.Conns.gives g.C.Conns.takes_back g.C.In.ByteSource.state g.C.Out.ByteSink.state)
      g.S.Secrets.draws
      g.G.Gate.watches g.O.Observer.told)
      (promised l.yielded)
      (record { seats = l.ends.seats.items; workers = l.ends.workers.items; ends = l.ends.ends.items });
}
