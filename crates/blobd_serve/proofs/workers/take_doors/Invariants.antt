use Rattle.std.specs.Prelude.{◌≡◌, ◌+◌, ◌≤◌, ◌++◌, vec_capacity, vec_len}
use Rattle.std.specs.Vec.Iter.{into_iter_items, into_iter_len}
use Rattle.blobd_serve.specs.Doors.{doors_of}
use Rattle.blobd_serve.proofs.workers.take_doors.Given as goal

abbrev pub invariant-loop-worker : goal.invariant-loop-worker
invariant-loop-worker g l = record {
  doors : l.doors.items ++ doors_of (into_iter_items l.worker-iterator)
      ≡ doors_of (into_iter_items l.initial.worker-iterator);
  room : vec_len l.doors + into_iter_len l.worker-iterator ≤ vec_capacity l.doors;
}
