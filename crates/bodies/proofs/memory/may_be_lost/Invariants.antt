use Rattle.std.proofs.Common.{◌≤◌, None, take, length}
use Rattle.bodies.specs.MemoryFiles.{left_in}
use Rattle.bodies.proofs.memory.may_be_lost.Given as goal

abbrev pub invariant-loop-left : goal.invariant-loop-left
invariant-loop-left l =
    (l.left ≤ length l.calls)
    × (left_in (take l.left l.calls) l.number None → left_in l.calls l.number None)

abbrev pub decreases-loop-left : goal.decreases-loop-left
decreases-loop-left l = l.left
