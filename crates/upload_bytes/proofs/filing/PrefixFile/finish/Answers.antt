use Rattle.std.proofs.Common.{arith, rules}
use Rattle.upload_bytes.proofs.Parts.{concat-take_rest}
use Rattle.upload_bytes.proofs.filing.PrefixFile.finish.Goals as goal

pub returns : goal.returns
returns c = search (rules, arith, concat-take_rest)
