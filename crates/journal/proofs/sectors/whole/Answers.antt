use Rattle.std.proofs.Common.{refl}
use Rattle.journal.specs.Format.{whole}
use Rattle.journal.proofs.sectors.whole.Goals as goal

pub returns : goal.returns
unfolding whole
returns c = refl
