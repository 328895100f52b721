use Rattle.std.proofs.Common.{◌≡◌}
use Rattle.upload_service.proofs.stock.are_same.Given as goal

abbrev pub invariant-loop-key : goal.invariant-loop-key
invariant-loop-key g l = l.key-iterator ≡ l.left → l.fn.items.entries ≡ l.fn.others.entries
