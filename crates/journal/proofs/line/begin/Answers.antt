use Rattle.std.proofs.Common.{◌≡◌, length, length-take, ap, arith, rules}
use Rattle.journal.specs.Format.{sector}
use Rattle.journal.proofs.Repaired.{begun_follows}
use Rattle.journal.proofs.Causes.{because_weaker}
use Rattle.journal.proofs.line.begin.Goals as goal

pub returns-in-Err-clause-cause : goal.returns-in-Err-clause-cause
returns-in-Err-clause-cause g c =
    because_weaker _ _ _ _ _ _ _ _ _ _ (λ no. no)
    (λ other. record {
      same = c.is_ours.ensures.reads.seen;
      no_more = c.is_ours.ensures.reads.crash;
      other = other;
    })
    (λ no. no) (λ more. more) (λ no. no) c.in-Err.error c.in-Err.ensures.cause

pub returns-in_err-write_line-clause-crash : goal.returns-in_err-write_line-clause-crash
returns-in_err-write_line-clause-crash g c clean left may =
    let old_clean = c.is_ours.ensures.reads.clean (c.write_line.ensures.clean clean) in
    begun_follows (g.D.Disk.seen c.args.disk.now) _ _
    (omega (arith, c.requires.measured old_clean, c.in-Ok.ensures.small c.if-stands.false))
    (λ d was. c.requires.synced d (c.is_ours.ensures.reads.crash d was)) c.write_line.ensures.crash left may

pub returns-clause-crash : goal.returns-clause-crash
returns-clause-crash g c clean left may =
    let old_clean = c.is_ours.ensures.reads.clean (c.write_line.ensures.clean clean) in
    begun_follows (g.D.Disk.seen c.args.disk.now) _ _
    (omega (arith, c.requires.measured old_clean, c.in-Ok.ensures.small c.if-stands.false))
    (λ d was. c.requires.synced d (c.is_ours.ensures.reads.crash d was)) c.write_line.ensures.crash left may

pub returns-clause-measured : goal.returns-clause-measured
returns-clause-measured g c clean =
    let new = g.D.Disk.seen c.write_line.new.disk in
    let old_clean = c.is_ours.ensures.reads.clean (c.write_line.ensures.clean clean) in
    let long : length c.args.line.now ≡ 4096 = search rules in
    omega (
      arith,
      long,
      ap length c.in_ok-write_line.ensures.line,
      length-take sector new,
      c.write_line.ensures.within,
      c.write_line.ensures.others.no_longer,
      ap length c.is_ours.ensures.reads.seen,
      c.requires.measured old_clean,
      c.max.ensures,
    )
