use Rattle.std.proofs.Common.{◌≡◌, ◌≤◌, ℕ, List, IsTrue}
use Rattle.journal.specs.Format.{stored}
use Rattle.journal.specs.Line.{BeginsWith}
use Rattle.journal.specs.Journal.{disk_of, line_of}
use Rattle.journal.proofs.life.restart_each.Given as goal

abbrev pub invariant-loop-i : goal.invariant-loop-i
invariant-loop-i g l = record {
  line : line_of l.journal ≡ line_of l.fn.journal;
  faults : g.D.Disk.faults (disk_of l.fn.journal) ≤ g.D.Disk.faults (disk_of l.journal);
  front : ((d : List ℕ) → g.D.Disk.may_leave (disk_of l.fn.journal) d → BeginsWith (line_of l.fn.journal) d)
      → IsTrue (g.D.Disk.is_clean (disk_of l.journal)) → (c : List ℕ) → g.D.Disk.may_leave (disk_of l.journal) c
      → BeginsWith (line_of l.fn.journal) c;
  clean : IsTrue (g.D.Disk.is_clean (disk_of l.journal)) → IsTrue (g.D.Disk.is_clean (disk_of l.fn.journal));
  any_crash : IsTrue (g.D.Disk.is_clean (disk_of l.journal)) → (c : List ℕ) → g.D.Disk.may_leave (disk_of l.journal) c
      → (d : List ℕ) × g.D.Disk.may_leave (disk_of l.fn.journal) d × (stored c ≡ stored d);
}
