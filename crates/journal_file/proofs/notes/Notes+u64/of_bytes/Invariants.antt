use Rattle.std.proofs.Common.{◌≡◌, ◌≤◌, drop, length}
use Rattle.journal_file.proofs.notes.Notes+u64.of_bytes.Given as goal

abbrev pub invariant-loop-left : goal.invariant-loop-left
invariant-loop-left l = (l.left ≤ length l.bytes) × (l.notes ≡ drop l.left l.bytes)

abbrev pub decreases-loop-left : goal.decreases-loop-left
decreases-loop-left l = l.left
