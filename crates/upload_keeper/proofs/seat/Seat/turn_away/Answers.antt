use Rattle.std.proofs.Common.{arith, rules}
use Rattle.upload_keeper.proofs.SeatMoves.{hears_gone}
use Rattle.upload_keeper.proofs.seat.Seat.turn_away.Goals as goal

pub returns : goal.returns
returns g c = search (rules, arith, hears_gone)
