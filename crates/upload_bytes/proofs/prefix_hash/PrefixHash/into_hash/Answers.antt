use Rattle.std.proofs.Common.{arith, rules}
use Rattle.std.proofs.lemmas.List.{append_assoc}
use Rattle.upload_bytes.proofs.Parts.{concat-take_rest}
use Rattle.upload_bytes.proofs.prefix_hash.PrefixHash.into_hash.Goals as goal

pub returns : goal.returns
returns g c = search (rules, arith, append_assoc, concat-take_rest)
