use Rattle.std.proofs.Common.{◌≤◌, length}
use Rattle.bodies.proofs.Listing.{IsListed}
use Rattle.bodies.proofs.memory.list.Given as goal

abbrev pub invariant-loop-left : goal.invariant-loop-left
invariant-loop-left l = (l.left ≤ length l.calls) × IsListed l.calls l.left l.numbers.items

abbrev pub decreases-loop-left : goal.decreases-loop-left
decreases-loop-left l = l.left
