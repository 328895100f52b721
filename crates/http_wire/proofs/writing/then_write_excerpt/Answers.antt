use Rattle.std.proofs.Common.{arith, rules}
use Rattle.http_wire.proofs.WritingLemmas.{wrote_more}
use Rattle.http_wire.proofs.writing.then_write_excerpt.Goals as goal

pub returns : goal.returns
returns g c = search (rules, arith, wrote_more)
