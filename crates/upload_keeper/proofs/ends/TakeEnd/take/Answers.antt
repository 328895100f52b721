use Rattle.upload_keeper.proofs.LineMoves.{taking}
use Rattle.upload_keeper.proofs.ends.TakeEnd.take.Goals as goal

pub recv_as-requires-clause-rule : goal.recv_as-requires-clause-rule
recv_as-requires-clause-rule g c = (taking _ _ c.requires, λ _ _ _ _. tt)
