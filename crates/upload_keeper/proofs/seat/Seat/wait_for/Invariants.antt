use Rattle.std.proofs.Common.{◌≡◌}
use Rattle.upload_keeper.proofs.seat.Seat.wait_for.Given as goal

abbrev pub invariant-waits : goal.invariant-waits
invariant-waits g l = l.self ≡ l.fn.self
