use Rattle.std.proofs.Common.{◌≤◌, take, length}
use Rattle.bodies.specs.MemoryFiles.{MayBeAny}
use Rattle.bodies.proofs.memory.is_being_written.Given as goal

abbrev pub invariant-loop-left : goal.invariant-loop-left
invariant-loop-left l =
    (l.left ≤ length l.calls)
    × (MayBeAny (take l.left l.calls) l.number → MayBeAny l.calls l.number)

abbrev pub decreases-loop-left : goal.decreases-loop-left
decreases-loop-left l = l.left
