use Rattle.std.proofs.Common.{◌∙◌, ap, subst, arith, take}
use Rattle.journal.proofs.Causes.{because_weaker}
use Rattle.journal.specs.Format.{stored}
use Rattle.upload_service.specs.Machine.{empty_state}
use Rattle.upload_store.specs.Rounds.{bodies_of}
use Rattle.upload_store.specs.Runs.{IsReplayOf, start_of}
use Rattle.upload_store.specs.Store.{shelf_of, next_of, limits_of}
use Rattle.upload_store.proofs.Causes.{comes_weaker, fault_weaker}
use Rattle.upload_store.proofs.Crashes.{written_still}
use Rattle.upload_store.proofs.life.live_on.Goals as goal

pub returns-in-Ok-clause-ran : goal.returns-in-Ok-clause-ran
returns-in-Ok-clause-ran g c opened clean =
    let held = g.S.Shelf.held in
    let may_leave = g.S.Shelf.may_leave in
    let now = shelf_of c.restart.new.store in
    let last = c.in-Ok.ensures.ran clean in
    let each_clean = c.restart.ensures.clean clean in
    let first = c.restart_each.ensures.any_crash each_clean last.0 last.1 in
    let them = c.keep_each-acknowledged.ensures.any_crash opened (c.restart_each.ensures.clean each_clean) first.0
    first.1 in
    let limits = c.restart_each.ensures.limits ∙ c.keep_each-acknowledged.ensures.limits in
    let start = start_of (empty_state (limits_of c.args.store.now) 0) in (
      them.0,
      them.1,
      them.2,
      them.3,
      subst (λ all. IsReplayOf all (held now) start c.in-Ok.replay) (first.2 ∙ them.4)
          (subst (λ l. IsReplayOf (stored last.0) (held now) (start_of (empty_state l 0)) c.in-Ok.replay) limits
          last.3),
      written_still held may_leave (shelf_of c.keep_each-acknowledged.new.store) now
          (λ n bytes safe. c.restart.ensures.safe n bytes (c.restart_each.ensures.safe n bytes safe))
          (next_of c.args.store.now) (bodies_of (take them.0 c.args.rounds.now)) them.5,
    )

pub returns-in-Err-clause-safe : goal.returns-in-Err-clause-safe
returns-in-Err-clause-safe g c n bytes clean safe =
    c.restart.ensures.safe n bytes
    (c.restart_each.ensures.safe n bytes
    (c.keep_each-acknowledged.ensures.safe n bytes (c.restart_each.ensures.clean (c.restart.ensures.clean clean)) safe))

pub returns-in-Ok-clause-safe : goal.returns-in-Ok-clause-safe
returns-in-Ok-clause-safe g c n bytes clean safe =
    c.restart.ensures.safe n bytes
    (c.restart_each.ensures.safe n bytes
    (c.keep_each-acknowledged.ensures.safe n bytes (c.restart_each.ensures.clean (c.restart.ensures.clean clean)) safe))

pub returns-in-Err-clause-cause : goal.returns-in-Err-clause-cause
returns-in-Err-clause-cause g c =
    let kept = c.keep_each-acknowledged.ensures.faults in
    let before = c.restart_each.ensures.faults in
    comes_weaker _ _ _ _ _ _ _ _
    (because_weaker _ _ _ _ _ _ _ _ _ _ (λ never. never)
    (λ other clean begins.
    (other clean).1 (begins ∙ ap (λ l. l.bytes) c.restart.ensures.line))
    (λ long. long) (λ more. omega (arith, more, kept.0, before.0)) (λ never. never))
    (fault_weaker _ _ _ _ _ _ _ _ _ _ (λ never. never) (λ never. never) (λ never. never) (λ never. never)
    (λ more. omega (arith, more, kept.1, before.1)))
    (λ it why. why) (λ full. full) c.in-Err.fault c.in-Err.ensures.cause
