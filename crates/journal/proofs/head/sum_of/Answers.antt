use Rattle.std.proofs.Common.{arith, rules}
use Rattle.journal.specs.Format.{sum_of}
use Rattle.journal.proofs.head.sum_of.Goals as goal

pub returns : goal.returns
unfolding sum_of
returns c = search (rules, arith)
