use Rattle.std.proofs.Common.{append_assoc, arith, rules}
use Rattle.upload_client.proofs.ask.put_mounted.Goals as goal

pub returns : goal.returns
returns g c = search (rules, arith, append_assoc)
