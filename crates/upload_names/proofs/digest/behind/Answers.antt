use Rattle.upload_names.proofs.TextFacts.{behind_found}
use Rattle.upload_names.proofs.digest.behind.Goals as goal

pub returns : goal.returns
returns c = behind_found c.args.text.now c.args.prefix.now c.strip_prefix.result c.strip_prefix.ensures.cases
