use Rattle.blobd_push.proofs.Answered.{all_answered}
use Rattle.blobd_push.proofs.laws.pushes_are_answered.Goals as goal

pub returns : goal.returns
returns c = all_answered
