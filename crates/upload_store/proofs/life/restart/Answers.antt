use Rattle.std.proofs.Common.{◌∙◌, ◌-◌, ◌^◌, IsSome, ap, sym, subst, arith, take, rules}
use Rattle.journal.specs.Format.{sector}
use Rattle.journal.proofs.Causes.{because_weaker}
use Rattle.upload_store.proofs.Causes.{comes_weaker, fault_weaker}
use Rattle.upload_store.specs.Store.{disk_of}
use Rattle.upload_store.proofs.Crashes.{crash_still, reads_still}
use Rattle.upload_store.proofs.life.restart.Goals as goal

pub returns-in-Err-clause-safe : goal.returns-in-Err-clause-safe
returns-in-Err-clause-safe g c n bytes safe = search (rules, arith, reads_still, crash_still)

pub returns-in-Ok-clause-safe : goal.returns-in-Ok-clause-safe
returns-in-Ok-clause-safe g c n bytes safe = search (rules, arith, reads_still, crash_still)

pub returns-in-Err-clause-any_crash : goal.returns-in-Err-clause-any_crash
returns-in-Err-clause-any_crash g c clean file may =
    let before = c.recover.ensures.any_crash clean file may in
    (before.0, c.crash.ensures.no_more_files before.0 before.1, before.2)

pub returns-in-Ok-clause-any_crash : goal.returns-in-Ok-clause-any_crash
returns-in-Ok-clause-any_crash g c clean file may =
    let before = c.recover.ensures.any_crash clean file may in
    (before.0, c.crash.ensures.no_more_files before.0 before.1, before.2)

pub returns-in-Err-clause-cause : goal.returns-in-Err-clause-cause
returns-in-Err-clause-cause g c =
    comes_weaker _ _ _ _ _ _ _ _
    (because_weaker _ _ _ _ _ _ _ _ _ _ (λ closed. sym closed ∙ c.crash.ensures.usable.0)
    (λ refuses clean. (
      subst (g.D.Disk.may_leave (disk_of c.args.store.now)) (sym refuses.same) c.crash.ensures.left_file,
      λ begins.
          absurd
          (refuses.other clean.disk
          (ap (take sector) (sym refuses.same) ∙ begins ∙ ap (λ l. l.bytes) (sym c.crash.ensures.line))),
    ))
    (λ long clean. let longer = c.recover.ensures.longer in omega (arith, long clean.disk, longer))
    (λ more. let same = c.crash.ensures.faults.0 in omega (arith, more, same)) (λ never. never))
    (fault_weaker _ _ _ _ _ _ _ _ _ _ (λ never. never) (λ never. never) (λ never. never) (λ never. never)
    (λ more. let fewer = c.crash.ensures.faults.1 in omega (arith, more, fewer)))
    (λ it why. why)
    (λ full clean. subst IsSome (sym (c.recover.ensures.reads.all.each (2 ^ 64 - 1)).same) (full clean.shelf))
    c.in-Err.fault c.in-Err.ensures.cause
