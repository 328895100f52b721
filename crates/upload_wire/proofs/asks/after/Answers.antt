use Rattle.upload_wire.proofs.TargetLemmas.{after_found}
use Rattle.upload_wire.proofs.asks.after.Goals as goal

pub returns : goal.returns
returns c = after_found c.args.text.now c.args.prefix.now c.strip_prefix.result c.strip_prefix.ensures.cases
