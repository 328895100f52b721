use Rattle.std.specs.Prelude.{◌≡◌}
use Rattle.upload_keeper.proofs.keeper.Keeper.reply_all.Given as goal

abbrev pub invariant-loop-seat : goal.invariant-loop-seat
invariant-loop-seat g l = l.self ≡ l.fn.self
