use Rattle.std.proofs.Common.{arith, rules}
use Rattle.upload_service.proofs.Alone.{limits_turn}
use Rattle.upload_service.proofs.Lawful.{lawful_turn}
use Rattle.upload_service.proofs.service.Service.step_at.Goals as goal

pub invariant_of-self : goal.invariant_of-self
invariant_of-self g c = search (rules, arith, limits_turn, lawful_turn)

pub returns-clause-lawful : goal.returns-clause-lawful
returns-clause-lawful g c = search (rules, arith, lawful_turn)
