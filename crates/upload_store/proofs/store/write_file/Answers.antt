use Rattle.std.proofs.Common.{arith, rules}
use Rattle.std.proofs.lemmas.List.Elements.{Contains-push}
use Rattle.upload_store.proofs.Causes.{fault_weaker, counts_up}
use Rattle.upload_store.proofs.Crashes.{others_then, others_still}
use Rattle.upload_store.proofs.store.write_file.Goals as goal

pub returns-in-Ok-fill-clause-others : goal.returns-in-Ok-fill-clause-others
returns-in-Ok-fill-clause-others g c = search (rules, arith, others_then)

pub returns-in-Err-fill-clause-others : goal.returns-in-Err-fill-clause-others
returns-in-Err-fill-clause-others g c = search (rules, arith, others_then)

pub returns-in-Err-fill-clause-faults : goal.returns-in-Err-fill-clause-faults
returns-in-Err-fill-clause-faults g c = omega (arith, counts_up _ _ _ _ _ c.remove.ensures.faults)

pub returns-in-Err-fill-clause-still : goal.returns-in-Err-fill-clause-still
returns-in-Err-fill-clause-still g c n bytes clean =
    search (rules, arith, others_still, returns-in-Err-fill-clause-others)

pub returns-in-Ok-fill-clause-still : goal.returns-in-Ok-fill-clause-still
returns-in-Ok-fill-clause-still g c n bytes clean =
    search (rules, arith, others_still, returns-in-Ok-fill-clause-others)

pub returns-in-Err-fill-clause-cause : goal.returns-in-Err-fill-clause-cause
returns-in-Err-fill-clause-cause g c = search (rules, arith, counts_up, fault_weaker, Contains-push)
