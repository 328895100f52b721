use Rattle.std.specs.Prelude.{◌≡◌, ◌<◌, ℕ, true, get_or}
use Rattle.upload_keeper.specs.declared.reply.ReplyLine.{ReplyLine}
use Rattle.upload_keeper.proofs.keeper.are_done.Given as goal

abbrev pub invariant-loop-seat : goal.invariant-loop-seat
invariant-loop-seat l = (k : ℕ) (d : ReplyLine) → k < l.seat → (get_or l.lines.items k d).is_done ≡ true
