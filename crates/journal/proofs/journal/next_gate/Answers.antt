use Rattle.std.proofs.Common.{◌+◌, arith}
use Rattle.journal.proofs.Listing.{is_whole}
use Rattle.journal.proofs.journal.next_gate.Goals as goal

pub returns-then-len : goal.returns-then-len
returns-then-len c = let w = is_whole (32 + c.args.len) in omega (arith, w.no_less, c.if-len.true)

pub overflow_add-next-2 : goal.overflow_add-next-2
overflow_add-next-2 c = omega (arith, is_whole (32 + c.args.len))
