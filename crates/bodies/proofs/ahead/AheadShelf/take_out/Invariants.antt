use Rattle.std.proofs.Common.{◌≡◌}
use Rattle.bodies.specs.AheadShelf.{inner_of}
use Rattle.bodies.proofs.ahead.AheadShelf.take_out.Given as goal

abbrev pub invariant-loop : goal.invariant-loop
invariant-loop g l = inner_of l.self ≡ inner_of l.fn.self
