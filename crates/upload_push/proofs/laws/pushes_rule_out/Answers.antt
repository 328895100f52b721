use Rattle.upload_push.proofs.RuledOut.{pushes_rule_out}
use Rattle.upload_push.proofs.laws.pushes_rule_out.Goals as goal

pub returns : goal.returns
returns c = pushes_rule_out
