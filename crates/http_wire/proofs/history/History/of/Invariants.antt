use Rattle.std.proofs.Common.{◌≡◌, take}
use Rattle.http_wire.proofs.history.History.of.Given as goal

abbrev pub invariant-loop-item : goal.invariant-loop-item
invariant-loop-item g l = l.history ≡ take l.item-index l.items
