use Rattle.upload_keeper.proofs.LineMoves.{merging}
use Rattle.upload_keeper.proofs.ends.settle_line.Goals as goal

pub absorb-requires-clause-rule : goal.absorb-requires-clause-rule
absorb-requires-clause-rule g c = merging _ _ _ _
