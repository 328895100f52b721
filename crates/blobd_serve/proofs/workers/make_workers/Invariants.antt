use Rattle.std.specs.Prelude.{◌≡◌, ◌++◌, All}
use Rattle.std.specs.Vec.Iter.{into_iter_items}
use Rattle.blobd_serve.specs.Doors.{doors_of, lefts_of}
use Rattle.blobd_serve.proofs.workers.make_workers.Given as goal

abbrev pub invariant-loop-door : goal.invariant-loop-door
invariant-loop-door g l = record {
  doors : doors_of l.workers.items ++ into_iter_items l.door-iterator ≡ into_iter_items l.initial.door-iterator;
  left : All (λ left. left ≡ l.terms.count) (lefts_of l.workers.items);
}
