use Rattle.upload_service.proofs.Whole.{headline_holds}
use Rattle.upload_service.proofs.laws.headline_holds.Goals as goal

pub returns : goal.returns
returns c = headline_holds
