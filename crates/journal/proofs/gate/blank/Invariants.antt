use Rattle.std.proofs.Common.{◌≡◌, ◌⊎◌, ◌<◌, ◌≤◌, ◌+◌, ◌-◌, ◌%◌, ℕ, List, length, IsTrue}
use Rattle.journal.specs.Format.{Kept, Rests}
use Rattle.journal.proofs.gate.blank.Given as goal

abbrev pub invariant-loop-far : goal.invariant-loop-far
invariant-loop-far g l = record {
  behind : l.gate < l.far;
  even : l.far % 4096 ≡ 0;
  small : l.far < l.end + 65536;
  usable : IsTrue (g.D.Disk.is_usable l.disk);
  faults : g.D.Disk.faults l.disk ≡ g.D.Disk.faults l.fn.disk;
  clean : IsTrue (g.D.Disk.is_clean l.disk) → IsTrue (g.D.Disk.is_clean l.fn.disk);
  written : (l.far < l.end) ⊎ (l.far ≤ length (g.D.Disk.seen l.disk));
  kept : (line : List ℕ) (all : List Kept) (len : ℕ)
      → ((c : List ℕ) → g.D.Disk.may_leave l.fn.disk c → Rests line all l.gate len c)
      → (c : List ℕ) → g.D.Disk.may_leave l.disk c → Rests line all l.gate len c;
}

abbrev pub decreases-loop-far : goal.decreases-loop-far
decreases-loop-far g l = l.end - l.far
