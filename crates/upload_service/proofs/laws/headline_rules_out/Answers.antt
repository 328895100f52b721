use Rattle.upload_service.proofs.RuledOut.{headline_rules_out}
use Rattle.upload_service.proofs.laws.headline_rules_out.Goals as goal

pub returns : goal.returns
returns c = headline_rules_out
