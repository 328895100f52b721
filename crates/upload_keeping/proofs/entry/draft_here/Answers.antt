use Rattle.std.proofs.Common.{arith, rules}
use Rattle.upload_keeping.proofs.Entries.{drafted_so}
use Rattle.upload_keeping.proofs.entry.draft_here.Goals as goal

pub returns : goal.returns
returns g c = search (rules, arith, drafted_so)
