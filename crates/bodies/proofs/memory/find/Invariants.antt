use Rattle.std.proofs.Common.{◌≡◌, ◌≤◌, take, length}
use Rattle.bodies.specs.MemoryFiles.{held_in}
use Rattle.bodies.proofs.memory.find.Given as goal

abbrev pub invariant-loop-left : goal.invariant-loop-left
invariant-loop-left l = (l.left ≤ length l.calls) × (held_in (take l.left l.calls) l.number ≡ held_in l.calls l.number)

abbrev pub decreases-loop-left : goal.decreases-loop-left
decreases-loop-left l = l.left
