use Rattle.upload_intake.proofs.SeatConversations.{conversations_fill}
use Rattle.upload_intake.proofs.laws.conversations_fill_the_seat.Goals as goal

pub returns : goal.returns
returns g c = conversations_fill g.S.Secrets.draws
