use Rattle.upload_keeper.proofs.LineMoves.{begins}
use Rattle.upload_keeper.proofs.ends.open_line.Goals as goal

pub bounded_with-requires-clause-rule : goal.bounded_with-requires-clause-rule
bounded_with-requires-clause-rule g c = begins
