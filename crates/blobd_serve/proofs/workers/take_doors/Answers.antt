use Rattle.std.proofs.Common.{◌++◌, [], ◌∷◌, ap, ◌∙◌, arith}
use Rattle.std.specs.Vec.Iter.{into_iter_items}
use Rattle.upload_keeper.proofs.Opening.{step_on}
use Rattle.blobd_serve.specs.Doors.{doors_of}
use Rattle.blobd_serve.proofs.workers.take_doors.Goals as goal

pub loop-worker-preserved : goal.loop-worker-preserved
loop-worker-preserved g c =
    let was = c.loop-worker.invariant in
    let pushed = c.push_reserved.ensures in
    let step = c.in-Some.ensures.steps in
    let old = c.loop-worker.doors.items in
    let rest = doors_of (into_iter_items c.next.new.self) in
    record {
      doors = ap (λ l. l ++ rest) pushed.items
          ∙ ap (λ d. (old ++ d ∷ []) ++ rest) c.into_door.ensures
          ∙ step_on old (doors_of (into_iter_items c.loop-worker.worker-iterator)) rest
          (doors_of (into_iter_items c.into_iter-worker-iterator.result)) c.in-Some.worker.conns.door was.doors
          (ap doors_of step.0);
      room = omega (arith, was.room, step.1, pushed.len, pushed.capacity);
    }
