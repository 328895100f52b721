use Rattle.std.proofs.Common.{arith, rules}
use Rattle.http_wire.proofs.BufferLemmas.{consumed, window_length}
use Rattle.http_wire.proofs.input.ReadBuffer.consume.Goals as goal

pub returns : goal.returns
returns c = search (rules, arith, window_length, consumed)
