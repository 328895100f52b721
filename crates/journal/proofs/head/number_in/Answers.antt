use Rattle.journal.specs.Format.{number_of}
use Rattle.journal.proofs.head.number_in.Goals as goal

pub returns : goal.returns
unfolding number_of
returns c = cc
