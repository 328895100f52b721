use Rattle.std.proofs.Common.{◌∙◌, ◌≤◌, ◌+◌, inl, List, length, take, ap, sym, subst, refl, arith}
use Rattle.journal.specs.Format.{Kept, sector, has_mark}
use Rattle.journal.specs.Machine.{Runs}
use Rattle.journal.proofs.Causes.{because_weaker, never}
use Rattle.journal.proofs.Repaired.{stored_small}
use Rattle.journal.proofs.looking.look.Goals as goal

pub returns-in-Err-clause-cause : goal.returns-in-Err-clause-cause
returns-in-Err-clause-cause g c =
    because_weaker _ _ _ _ _ _ _ _ _ _ (never _)
    (λ other clean is.
    other clean (ap (λ l. take sector l) c.measure.ensures.reads.seen ∙ is ∙ sym c.bytes.ensures)) (never _)
    (λ more. omega (arith, more, c.measure.ensures.reads.faults)) (never _) c.in-Err.error c.in-Err.ensures.cause

pub returns-then-not-stands-clause-ran : goal.returns-then-not-stands-clause-ran
returns-then-not-stands-clause-ran g c clean =
    let file = g.D.Disk.seen c.args.disk.now in
    let measured = c.in_ok-len.ensures.measured (c.is_ours.ensures.reads.clean clean) in
    let short : length file ≤ sector + sector = omega (arith, measured, c.in-Ok.ensures.small c.if-not-stands.true) in
    subst (λ (l : List Kept). Runs g.M.Machine.steps c.args.machine.now l c.args.machine.now)
    (sym (stored_small file short)) refl

pub returns-then-not-stands-clause-ends : goal.returns-then-not-stands-clause-ends
returns-then-not-stands-clause-ends g c clean =
    let measured = c.in_ok-len.ensures.measured (c.is_ours.ensures.reads.clean clean) in
    inl (refl, omega (arith, measured, c.in-Ok.ensures.small c.if-not-stands.true))

pub returns-then-not-stands-clause-marked : goal.returns-then-not-stands-clause-marked
returns-then-not-stands-clause-marked g c clean =
    let measured = c.in_ok-len.ensures.measured (c.is_ours.ensures.reads.clean clean) in
    sym (ap has_mark (stored_small (g.D.Disk.seen c.args.disk.now)
    (omega (arith, measured, c.in-Ok.ensures.small c.if-not-stands.true))))
