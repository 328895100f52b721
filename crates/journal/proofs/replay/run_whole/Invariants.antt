use Rattle.std.proofs.Common.{◌≡◌, ◌++◌, ◌≤◌, ℕ, List, drop, length}
use Rattle.journal.specs.Format.{records}
use Rattle.journal.specs.Machine.{RunsRecords}
use Rattle.journal.proofs.Keeping.{KeepsMore}
use Rattle.journal.proofs.replay.run_whole.Given as goal

abbrev pub invariant-loop-record : goal.invariant-loop-record
invariant-loop-record g l = record {
  others : KeepsMore g.M.Machine.keeps l.fn.machine l.machine;
  passed : (n : ℕ) × (l.rest ≡ drop n l.bytes) × (n ≤ length l.bytes);
  ran : (done : List (List ℕ)) × RunsRecords g.M.Machine.steps l.time l.fn.machine done l.machine
      × ((more : List ℕ) → records (l.bytes ++ more) ≡ done ++ records (l.rest ++ more));
}

abbrev pub decreases-loop-record : goal.decreases-loop-record
decreases-loop-record g l = length l.rest
