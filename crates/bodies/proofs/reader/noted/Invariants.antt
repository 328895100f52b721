use Rattle.std.proofs.Common.{◌≡◌, ◌++◌, take, reverse}
use Rattle.bodies.proofs.reader.noted.Given as goal

abbrev pub invariant-loop-byte : goal.invariant-loop-byte
invariant-loop-byte l = l.came ≡ reverse (take l.byte-index l.bytes) ++ l.fn.came
