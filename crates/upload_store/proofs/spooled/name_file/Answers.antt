use Rattle.std.proofs.Common.{arith, rules}
use Rattle.upload_store.proofs.Causes.{fault_weaker}
use Rattle.upload_store.proofs.Crashes.{others_still, either_still}
use Rattle.upload_store.proofs.spooled.name_file.Goals as goal

pub returns-clause-still : goal.returns-clause-still
returns-clause-still g c n bytes clean = search (rules, arith, others_still)

pub returns-in-Err-clause-still : goal.returns-in-Err-clause-still
returns-in-Err-clause-still g c n bytes clean = search (rules, arith, either_still)

pub returns-in-Err-clause-cause : goal.returns-in-Err-clause-cause
returns-in-Err-clause-cause g c = search (rules, arith, fault_weaker)
