use Rattle.std.proofs.Common.{◌≡◌, ◌-◌, ◌≤◌, ◌%◌, List, length, IsTrue}
use Rattle.journal.specs.Format.{Kept, sector, has_mark}
use Rattle.journal.specs.Machine.{Runs}
use Rattle.journal.specs.Reads.{OnlyReads}
use Rattle.journal.proofs.Scan.{HasRead}
use Rattle.journal.proofs.Keeping.{KeepsMore}
use Rattle.journal.proofs.replay.replay.Given as goal

abbrev pub invariant-loop-bytes : goal.invariant-loop-bytes
invariant-loop-bytes g l = record {
  begins : sector ≤ l.at;
  even : l.at % 4096 ≡ 0;
  within : l.at ≤ l.len;
  few : l.count ≤ l.at;
  reads : OnlyReads g.D.Disk l.fn.disk l.disk;
  others : KeepsMore g.M.Machine.keeps l.fn.machine l.machine;
  ran : IsTrue (g.D.Disk.is_clean l.disk)
      → (done : List Kept) × HasRead (g.D.Disk.seen l.fn.disk) done l.at × (l.count ≡ length done)
      × (l.has_mark ≡ has_mark done)
      × Runs g.M.Machine.steps l.fn.machine done l.machine;
}

abbrev pub decreases-loop-bytes : goal.decreases-loop-bytes
decreases-loop-bytes g l = l.len - l.at
