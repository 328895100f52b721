use Rattle.std.proofs.Common.{arith, rules}
use Rattle.end_to_end.proofs.Dialing.{are_carried, have_connections}
use Rattle.end_to_end.proofs.laws.dialed_pushes_have_connections.Goals as goal

pub returns-clause-connections : goal.returns-clause-connections
returns-clause-connections g c = have_connections

pub returns-clause-carried : goal.returns-clause-carried
returns-clause-carried g c = search (rules, arith, are_carried)
