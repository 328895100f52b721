use Rattle.std.proofs.Common.{arith, rules}
use Rattle.upload_keeper.proofs.Unchanged.{turn_lacking}
use Rattle.upload_keeper.proofs.keeper.step.Goals as goal

pub returns-then-changes-clause-turn : goal.returns-then-changes-clause-turn
returns-then-changes-clause-turn g c = search (rules, arith, turn_lacking)
