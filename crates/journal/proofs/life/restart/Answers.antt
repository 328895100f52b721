use Rattle.std.proofs.Common.{◌∙◌, ap, sym, arith}
use Rattle.journal.proofs.Causes.{because_weaker}
use Rattle.journal.proofs.life.restart.Goals as goal

pub returns-in-Err-clause-any_crash : goal.returns-in-Err-clause-any_crash
returns-in-Err-clause-any_crash g c clean file may =
    let before = c.recover.ensures.any_crash clean file may in
    (before.0, c.crash.ensures.no_more before.0 before.1, before.2)

pub returns-in-Err-clause-cause : goal.returns-in-Err-clause-cause
returns-in-Err-clause-cause g c =
    because_weaker _ _ _ _ _ _ _ _ _ _ (λ closed. sym closed ∙ c.crash.ensures.usable)
    (λ refuses clean. (
      _,
      c.crash.ensures.left,
      λ begins. absurd (refuses.other clean (begins ∙ ap (λ l. l.bytes) (sym c.crash.ensures.line))),
    ))
    (λ long clean. omega (arith, long clean, c.recover.ensures.longer))
    (λ more. omega (arith, more, c.crash.ensures.faults)) (λ refused. refused) c.in-Err.error c.in-Err.ensures.cause
