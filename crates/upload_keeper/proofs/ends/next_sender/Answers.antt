use Rattle.upload_keeper.proofs.LineMoves.{cuts_next}
use Rattle.upload_keeper.proofs.ends.next_sender.Goals as goal

pub another-pass-requires-clause-rule : goal.another-pass-requires-clause-rule
another-pass-requires-clause-rule g c = cuts_next _ _
