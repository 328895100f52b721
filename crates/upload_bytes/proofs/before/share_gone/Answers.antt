use Rattle.std.proofs.Common.{arith, rules}
use Rattle.std.proofs.lemmas.List.{append_assoc}
use Rattle.upload_bytes.proofs.Parts.{concat-push}
use Rattle.upload_bytes.proofs.before.share_gone.Goals as goal

pub returns : goal.returns
returns c = search (rules, arith, concat-push, append_assoc)
