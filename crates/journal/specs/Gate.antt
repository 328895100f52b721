-- A batch that lies behind a shut gate.
use Rattle.std.specs.Prelude.{◌≡◌, ◌≢◌, ℕ, ◌+◌, ◌-◌, ◌<◌, ◌≤◌, List, [], length, take, drop, slice_index, Some}
use Rattle.journal.specs.Format.{Kept, behind, sector}

-- this batch lies behind the gate's sector, and behind it is a shut gate, which has a sector of its own
pub record IsStaged (gate next number : ℕ) (kept : Kept) (file : List ℕ) : Type 0 where
  pub is : behind number (take (next - (gate + sector)) (drop (gate + sector) file)) ≡ Some (kept, [])
  pub after : gate + sector < next
  pub within : next + sector ≤ length file
  pub shut : slice_index file next ≢ 1
