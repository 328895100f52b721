use Rattle.std.proofs.Common.{◌≡◌, ◌++◌, ◌≤◌, ℕ, List, take, IsTrue}
use Rattle.journal.specs.Format.{stored}
use Rattle.journal.specs.Batch.{kept_of, ends_behind}
use Rattle.journal.specs.Journal.{disk_of, line_of, is_open, end_of, kept}
use Rattle.journal.proofs.life.append_each.Given as goal

abbrev pub invariant-loop-i : goal.invariant-loop-i
invariant-loop-i g l = record {
  is_still_open : IsTrue (is_open l.journal);
  line : line_of l.journal ≡ line_of l.fn.journal;
  ends : end_of l.journal ≡ ends_behind (end_of l.fn.journal) (take l.i l.batches);
  faults : g.D.Disk.faults (disk_of l.fn.journal) ≤ g.D.Disk.faults (disk_of l.journal);
  clean : IsTrue (g.D.Disk.is_clean (disk_of l.journal)) → IsTrue (g.D.Disk.is_clean (disk_of l.fn.journal));
  added : IsTrue (g.D.Disk.is_clean (disk_of l.journal)) → kept l.journal ≡ kept l.fn.journal ++ kept_of l.time
      (take l.i l.batches);
  durable : IsTrue (g.D.Disk.is_clean (disk_of l.journal)) → (file : List ℕ) → g.D.Disk.may_leave (disk_of l.journal)
      file → stored file ≡ kept l.journal;
}
