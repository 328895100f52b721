use Rattle.std.proofs.Common.{arith, rules}
use Rattle.upload_keeper.proofs.keeper.serve_as_it_came.Goals as goal

pub returns-in-Held-clause-turn : goal.returns-in-Held-clause-turn
returns-in-Held-clause-turn g c = search (rules, arith)

pub returns-in-Held-clause-waiting : goal.returns-in-Held-clause-waiting
returns-in-Held-clause-waiting g c = search (rules, arith)

pub returns-in-Gone-clause-turn : goal.returns-in-Gone-clause-turn
returns-in-Gone-clause-turn g c = search (rules, arith)

pub returns-in-Gone-clause-waiting : goal.returns-in-Gone-clause-waiting
returns-in-Gone-clause-waiting g c = search (rules, arith)
