use Rattle.std.proofs.Common.{refl, arith, rules}
use Rattle.upload_store.proofs.Unwrapping.{if_ok_so, if_err_so, saved_under, same_under, next_under}
use Rattle.upload_store.proofs.Unwrapping.{unnamed_under, reads_under, cause_under, any_under, clean_over, clean_under}
use Rattle.upload_store.proofs.Unwrapping.{open_under, longer_under, faults_under}
use Rattle.upload_store.proofs.Reading.{reads_none}
use Rattle.upload_store.proofs.Causes.{comes_weaker}
use Rattle.journal.proofs.Causes.{never}
use Rattle.upload_store.proofs.store.Store.salvage_ahead.Goals as goal

pub returns-clause-ran : goal.returns-clause-ran
returns-clause-ran g c =
    if_ok_so _ _
    (λ saved told. saved_under (λ x. refl) (λ x. refl) (λ x h. h) (λ x h. h) (λ x. refl) c.args.self
    c.list_hints.new.self c.unwrapped.result c.ahead-ahead.result c.salvage-saved.new.self c.ahead-ahead.ensures
    c.unwrapped.ensures
    c.in-Ok.ensures.same c.list_hints.ensures.shelf c.list_hints.ensures.limits c.salvage-saved.ensures.clean
    saved.replay saved.losses.count saved.losses.listed.items told)
    c.salvage-saved.result c.salvage-saved.ensures.ran

pub returns-clause-unnamed : goal.returns-clause-unnamed
returns-clause-unnamed g c =
    if_ok_so _ _ (λ saved told. unnamed_under (λ x. refl) (λ x. refl) (λ x h. h) (λ x h. h) (λ x. refl) c.args.self
    c.list_hints.new.self c.unwrapped.result c.ahead-ahead.result c.salvage-saved.new.self c.ahead-ahead.ensures
    c.unwrapped.ensures
    c.in-Ok.ensures.same c.list_hints.ensures.shelf c.list_hints.ensures.limits c.salvage-saved.ensures.clean told)
    c.salvage-saved.result c.salvage-saved.ensures.unnamed

pub returns-clause-same : goal.returns-clause-same
returns-clause-same g c =
    if_ok_so _ _ (λ value told. same_under (λ x. refl) (λ x. refl) (λ x h. h) (λ x h. h) (λ x. refl) c.args.self
    c.list_hints.new.self c.unwrapped.result c.ahead-ahead.result c.salvage-saved.new.self c.ahead-ahead.ensures
    c.unwrapped.ensures
    c.in-Ok.ensures.same c.list_hints.ensures.shelf c.list_hints.ensures.limits c.salvage-saved.ensures.clean told)
    c.salvage-saved.result c.salvage-saved.ensures.same

pub returns-clause-next : goal.returns-clause-next
returns-clause-next g c =
    if_ok_so _ _ (λ value told. next_under (λ x. refl) (λ x. refl) (λ x h. h) (λ x h. h) (λ x. refl) c.args.self
    c.list_hints.new.self c.unwrapped.result c.ahead-ahead.result c.salvage-saved.new.self c.ahead-ahead.ensures
    c.unwrapped.ensures
    c.in-Ok.ensures.same c.list_hints.ensures.shelf c.list_hints.ensures.limits c.salvage-saved.ensures.clean told)
    c.salvage-saved.result c.salvage-saved.ensures.next

pub returns-clause-reads : goal.returns-clause-reads
returns-clause-reads g c =
    reads_under (λ x. refl) (λ x. refl) (λ x h. h) (λ x h. h) (λ x. refl) c.args.self c.list_hints.new.self
    c.unwrapped.result c.ahead-ahead.result c.salvage-saved.new.self c.ahead-ahead.ensures c.unwrapped.ensures
    c.in-Ok.ensures.same c.list_hints.ensures.shelf c.list_hints.ensures.limits c.salvage-saved.ensures.clean
    c.salvage-saved.ensures.reads

pub returns-clause-clean : goal.returns-clause-clean
returns-clause-clean g c clean = search (rules, arith, clean_under, clean_over)

pub returns-clause-cause : goal.returns-clause-cause
returns-clause-cause g c =
    if_err_so _ _
    (λ fault why. cause_under (λ x. refl) (λ x. refl) (λ x h. h) (λ x h. h) (λ x. refl) c.args.self
    c.list_hints.new.self c.unwrapped.result c.ahead-ahead.result c.salvage-saved.new.self c.ahead-ahead.ensures
    c.unwrapped.ensures
    c.in-Ok.ensures.same c.list_hints.ensures.shelf c.list_hints.ensures.limits c.salvage-saved.ensures.clean
    _ c.list_hints.ensures.faults fault why)
    c.salvage-saved.result c.salvage-saved.ensures.cause

pub returns-clause-any_crash : goal.returns-clause-any_crash
returns-clause-any_crash g c =
    any_under (λ x. refl) (λ x. refl) (λ x h. h) (λ x h. h) (λ x. refl) c.args.self c.list_hints.new.self
    c.unwrapped.result c.ahead-ahead.result c.salvage-saved.new.self c.ahead-ahead.ensures c.unwrapped.ensures
    c.in-Ok.ensures.same c.list_hints.ensures.shelf c.list_hints.ensures.limits c.salvage-saved.ensures.clean
    c.salvage-saved.ensures.any_crash c.list_hints.ensures.any_crash

pub returns-clause-open : goal.returns-clause-open
returns-clause-open g c = search (rules, arith, if_ok_so, open_under)

pub returns-clause-limits : goal.returns-clause-limits
returns-clause-limits g c = cc

pub returns-clause-line : goal.returns-clause-line
returns-clause-line g c = cc

pub returns-clause-longer : goal.returns-clause-longer
returns-clause-longer g c = search (rules, arith, longer_under)

pub returns-clause-faults : goal.returns-clause-faults
returns-clause-faults g c = search (rules, arith, faults_under)

-- the journal could not be read for the hints

pub returns-in-Err-clause-reads : goal.returns-in-Err-clause-reads
returns-in-Err-clause-reads g c = search (rules, arith, reads_none)

pub returns-in-Err-clause-cause : goal.returns-in-Err-clause-cause
returns-in-Err-clause-cause g c = record {
  was = c.args.self;
  same = λ clean. refl;
  shelf = refl;
  faults = omega arith;
  why =
      comes_weaker _ _ _ _ _ _ _ _ (λ error why. why) (λ body why. never _ why) (λ it why. never _ why)
      (λ why. never _ why) c.in-Err.fault c.in-Err.ensures.cause;
}
