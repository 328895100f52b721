use Rattle.std.proofs.Common.{arith, rules}
use Rattle.upload_bytes.proofs.Parts.{concat-push}
use Rattle.upload_bytes.proofs.blob.apart.Goals as goal

pub returns : goal.returns
returns c = search (rules, arith, concat-push)
