use Rattle.std.proofs.Common.{◌≤◌, ◌+◌, ◌^◌, ◌∙◌, IsTrue, length, take, ap, arith}
use Rattle.sqlite_disk.specs.Disk.{MoreFaults}
use Rattle.journal.specs.Errors.{Because, Never}
use Rattle.journal.specs.Format.{sector}
use Rattle.journal.specs.Reads.{Refuses}
use Rattle.journal.proofs.Causes.{because_weaker, if_err_weaker, never}
use Rattle.journal.proofs.recovery.settle.Goals as goal

pub returns-clause-cause : goal.returns-clause-cause
returns-clause-cause g c =
    let seen = c.measure.ensures.reads.seen ∙ c.sync.ensures.seen in
    let old = c.args.disk.now in
    let mid = c.measure.new.disk in
    let new = c.begin.new.disk in
    let line = c.args.line.now in
    if_err_weaker c.begin.result (Because Never (Refuses g.D.Disk line mid new) Never
    (MoreFaults (g.D.Disk.faults mid) (g.D.Disk.faults new)) Never)
    (Because Never (Refuses g.D.Disk line old new)
    (IsTrue (g.D.Disk.is_clean new) → 2 ^ 63 ≤ length (g.D.Disk.seen old) + sector + sector)
    (MoreFaults (g.D.Disk.faults old) (g.D.Disk.faults new)) Never)
    (because_weaker _ _ _ _ _ _ _ _ _ _ (λ no. no) (λ refuses. record {
      same = refuses.same ∙ seen;
      no_more = λ left may. c.sync.ensures.crash left (c.measure.ensures.reads.crash left (refuses.no_more left may));
      other = λ clean is. refuses.other clean (ap (λ l. take sector l) seen ∙ is);
    }) (never _) (λ more. omega (arith, more, c.sync.ensures.faults, c.measure.ensures.reads.faults)) (λ no. no))
    c.begin.ensures.cause
