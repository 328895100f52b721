use Rattle.std.proofs.Common.{arith, rules}
use Rattle.std.proofs.lemmas.List.{length-replicate}
use Rattle.upload_names.proofs.DigestFacts.{decoded}
use Rattle.upload_names.proofs.digest.read_digits.Goals as goal

pub returns-in-Ok : goal.returns-in-Ok
returns-in-Ok g c = search (rules, arith, decoded, length-replicate)
