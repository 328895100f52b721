use Rattle.std.proofs.Common.{◌-◌, ◌≤◌, take, IsTrue}
use Rattle.journal.specs.Reads.{OnlyReads, RunsTo}
use Rattle.journal.proofs.Keeping.{KeepsMore}
use Rattle.journal.proofs.replay.run_records.Given as goal

abbrev pub invariant-loop-at : goal.invariant-loop-at
invariant-loop-at g l = record {
  within : l.at ≤ l.end;
  reads : OnlyReads g.D.Disk l.fn.disk l.disk;
  others : KeepsMore g.M.Machine.keeps l.fn.machine l.machine;
  ran : IsTrue (g.D.Disk.is_clean l.disk)
      → RunsTo g.M.Machine.steps l.time l.fn.machine (take l.end (g.D.Disk.seen l.fn.disk)) l.start l.at l.machine;
}

abbrev pub decreases-loop-at : goal.decreases-loop-at
decreases-loop-at g l = l.end - l.at
