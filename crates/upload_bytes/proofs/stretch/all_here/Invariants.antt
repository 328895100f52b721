use Rattle.std.proofs.Common.{◌≡◌}
use Rattle.upload_bytes.proofs.stretch.all_here.Given as goal

abbrev pub invariant-loop-part : goal.invariant-loop-part
invariant-loop-part l = l.stretches.items ≡ l.yielded
