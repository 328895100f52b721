use Rattle.blobd_push.proofs.Dialing.{all_dialed}
use Rattle.blobd_push.proofs.laws.asks_are_dialed.Goals as goal

pub returns : goal.returns
returns c = all_dialed
