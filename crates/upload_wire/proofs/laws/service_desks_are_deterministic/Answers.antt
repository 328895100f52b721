use Rattle.upload_wire.proofs.DeterminedLemmas.{service_deterministic}
use Rattle.upload_wire.proofs.laws.service_desks_are_deterministic.Goals as goal

pub returns : goal.returns
returns c = service_deterministic
