use Rattle.std.proofs.Common.{arith, rules}
use Rattle.upload_keeper.proofs.SeatMoves.{asks_back, is_held}
use Rattle.upload_keeper.proofs.seat.Seat.ask_at_once.Goals as goal

pub held_of-requires : goal.held_of-requires
held_of-requires g c = search (rules, arith, is_held)

pub returns-in-Err-Some : goal.returns-in-Err-Some
returns-in-Err-Some g c = search (rules, arith, asks_back)
