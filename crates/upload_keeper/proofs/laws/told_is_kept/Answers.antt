use Rattle.upload_keeper.proofs.Restarting.{told_is_kept}
use Rattle.upload_keeper.proofs.laws.told_is_kept.Goals as goal

pub returns : goal.returns
returns c = told_is_kept
