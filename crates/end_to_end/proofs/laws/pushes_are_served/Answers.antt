use Rattle.std.proofs.Common.{arith, rules}
use Rattle.end_to_end.proofs.Serving.{pushes_served}
use Rattle.end_to_end.proofs.laws.pushes_are_served.Goals as goal

pub returns : goal.returns
returns g c = search (rules, arith, pushes_served)
