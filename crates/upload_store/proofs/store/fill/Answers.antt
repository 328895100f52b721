use Rattle.std.proofs.Common.{arith, rules}
use Rattle.std.proofs.Common.{length-append}
use Rattle.upload_store.proofs.Causes.{fault_weaker}
use Rattle.upload_store.proofs.store.fill.Goals as goal

pub returns-in-Err-clause-cause : goal.returns-in-Err-clause-cause
returns-in-Err-clause-cause g c = search (rules, arith, fault_weaker, length-append)

pub returns-in-Err-append-clause-cause : goal.returns-in-Err-append-clause-cause
returns-in-Err-append-clause-cause g c = search (rules, arith, fault_weaker, length-append)

pub returns-in-Ok-clause-others : goal.returns-in-Ok-clause-others
returns-in-Ok-clause-others g c = omega arith

pub returns-in-Err-finish-clause-others : goal.returns-in-Err-finish-clause-others
returns-in-Err-finish-clause-others g c = omega arith
