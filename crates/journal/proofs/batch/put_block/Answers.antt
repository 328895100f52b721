use Rattle.std.proofs.Common.{rules, append_assoc}
use Rattle.journal.specs.Format.{number_bytes}
use Rattle.journal.proofs.batch.put_block.Goals as goal

pub returns-clause-ok : goal.returns-clause-ok
unfolding number_bytes
returns-clause-ok c = search (rules, append_assoc)
