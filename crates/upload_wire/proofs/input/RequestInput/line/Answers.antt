use Rattle.std.proofs.Common.{arith, rules}
use Rattle.upload_wire.proofs.RequestLemmas.{line_read}
use Rattle.upload_wire.proofs.input.RequestInput.line.Goals as goal

pub returns : goal.returns
returns c = search (rules, arith, line_read)
