use Rattle.std.proofs.Common.{arith, rules}
use Rattle.end_to_end.proofs.OneWorker.{to_one_served}
use Rattle.end_to_end.proofs.laws.pushes_to_one_worker_are_served.Goals as goal

pub returns : goal.returns
returns g c = search (rules, arith, to_one_served)
