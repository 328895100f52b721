use Rattle.std.proofs.Common.{[], sym, subst}
use Rattle.upload_service.specs.Machine.{AreLawful}
use Rattle.upload_service.proofs.Alone.{limits_turn}
use Rattle.upload_service.proofs.Lawful.{lawful_turn}
use Rattle.upload_service.proofs.service.Service.restore_blob.Goals as goal

pub invariant_of-self : goal.invariant_of-self
invariant_of-self c = record {
  bounds = subst AreLawful (sym (limits_turn _ _ _ _ _ _ (c.restore_single.ensures [] 0))) c.self.invariant.bounds;
  state = lawful_turn _ _ _ _ _ _ c.self.invariant.state (c.restore_single.ensures [] 0);
}

pub returns-clause-lawful : goal.returns-clause-lawful
returns-clause-lawful c = lawful_turn _ _ _ _ _ _ c.self.invariant.state (c.restore_single.ensures [] 0)
