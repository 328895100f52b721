use Rattle.std.proofs.Common.{rules}
use Rattle.journal.specs.Format.{number_bytes}
use Rattle.journal.proofs.head.head_with.Goals as goal

pub returns : goal.returns
unfolding number_bytes
returns c = search rules
