use Rattle.std.proofs.Common.{◌-◌, ◌≤◌, length, take}
use Rattle.http_wire.specs.Writing.{TookAll}
use Rattle.http_wire.proofs.writing.write_all.Given as goal

abbrev pub invariant-loop-at : goal.invariant-loop-at
invariant-loop-at g l =
    (l.at ≤ length l.bytes)
    × TookAll (g.W.ByteSink.state l.initial.writer)
    (g.W.ByteSink.state l.writer) (take l.at l.bytes)

abbrev pub decreases-loop-at : goal.decreases-loop-at
decreases-loop-at g l = length l.bytes - l.at
