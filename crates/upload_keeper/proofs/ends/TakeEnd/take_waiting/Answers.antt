use Rattle.upload_keeper.proofs.LineMoves.{taking}
use Rattle.upload_keeper.proofs.ends.TakeEnd.take_waiting.Goals as goal

pub try_recv_as-requires-clause-rule : goal.try_recv_as-requires-clause-rule
try_recv_as-requires-clause-rule g c = (taking _ _ c.requires, λ _ _ _ _. tt)
