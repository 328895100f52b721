use Rattle.std.proofs.Common.{◌≡◌, ◌+◌, ◌*◌, ◌-◌, ◌<◌, ◌≤◌, ◌^◌, ℕ, drop, None, IsTrue}
use Rattle.journal.specs.Format.{next, sector}
use Rattle.journal.specs.Reads.{OnlyReads}
use Rattle.journal.proofs.ending.has_later.Given as goal

abbrev pub invariant-loop-sectors : goal.invariant-loop-sectors
invariant-loop-sectors g l = record {
  within : l.sectors * sector < 2 ^ 63 + sector;
  reads : OnlyReads g.D.Disk l.fn.disk l.disk;
  none : IsTrue (g.D.Disk.is_clean l.disk)
      → (sectors number : ℕ) → sectors < l.sectors → l.count < number → number ≤ l.count + sectors → next number
      (drop (l.end + sectors * sector) (g.D.Disk.seen l.fn.disk)) ≡ None;
}

abbrev pub decreases-loop-sectors : goal.decreases-loop-sectors
decreases-loop-sectors g l = l.len - (l.end + l.sectors * sector)
