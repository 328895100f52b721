use Rattle.upload_keeper.proofs.LineMoves.{sending}
use Rattle.upload_keeper.proofs.ends.SendEnd.offer.Goals as goal

pub send_as-requires-clause-rule : goal.send_as-requires-clause-rule
send_as-requires-clause-rule g c = (sending _ _ _ _ c.requires, λ _ _ _ _. tt)
