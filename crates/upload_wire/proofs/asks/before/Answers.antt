use Rattle.upload_wire.proofs.TargetLemmas.{before_found}
use Rattle.upload_wire.proofs.asks.before.Goals as goal

pub returns : goal.returns
returns c = before_found c.args.text.now c.args.suffix.now c.strip_suffix.result c.strip_suffix.ensures.cases
