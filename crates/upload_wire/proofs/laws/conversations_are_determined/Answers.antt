use Rattle.upload_wire.proofs.DeterminedLemmas.{conversations_determined}
use Rattle.upload_wire.proofs.laws.conversations_are_determined.Goals as goal

pub returns : goal.returns
returns g c = conversations_determined g.D.Desk.moves
