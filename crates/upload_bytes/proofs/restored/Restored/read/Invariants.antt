use Rattle.std.proofs.Common.{◌-◌, ◌≡◌, ◌++◌, ◌≤◌, List, ℕ}
use Rattle.upload_bytes.proofs.restored.Restored.read.Given as goal

abbrev pub invariant-pieces : goal.invariant-pieces
invariant-pieces l = (came : List ℕ) × (l.read ≡ l.fn.self ++ came) × (l.at ≤ l.len)

abbrev pub decreases-pieces : goal.decreases-pieces
decreases-pieces l = l.len - l.at
