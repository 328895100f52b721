use Rattle.std.proofs.Common.{◌≡◌}
use Rattle.bodies.specs.Reader.{bytes_of}
use Rattle.bodies.proofs.whole.read_rest.Given as goal

abbrev pub invariant-loop : goal.invariant-loop
invariant-loop l = bytes_of l.fn.reader ≡ l.fn.body → bytes_of l.reader ≡ l.body
