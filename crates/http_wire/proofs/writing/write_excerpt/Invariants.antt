use Rattle.std.proofs.Common.{◌≡◌, ◌++◌, List, ℕ, length}
use Rattle.http_wire.specs.Writing.{TookAll}
use Rattle.http_wire.proofs.writing.write_excerpt.Given as goal

abbrev pub invariant-loop-rest : goal.invariant-loop-rest
invariant-loop-rest g l =
    (front : List ℕ)
    × TookAll (g.W.ByteSink.state l.initial.writer) (g.W.ByteSink.state l.writer) front
    × (l.initial.rest.told ≡ front ++ l.rest.told)

abbrev pub decreases-loop-rest : goal.decreases-loop-rest
decreases-loop-rest g l = length l.rest.told
