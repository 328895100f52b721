use Rattle.std.proofs.Common.{arith, rules}
use Rattle.upload_intake.proofs.Conversations.{hears_drawn}
use Rattle.upload_intake.proofs.desk.SeatDesk.ask_gone.Goals as goal

pub returns : goal.returns
returns g c = search (rules, arith, hears_drawn)
