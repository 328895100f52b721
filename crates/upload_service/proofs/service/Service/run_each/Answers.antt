use Rattle.std.proofs.Common.{arith, rules}
use Rattle.std.proofs.lemmas.List.{length_push}
use Rattle.upload_service.proofs.Whole.{run_more}
use Rattle.upload_service.proofs.service.Service.run_each.Goals as goal

pub loop-ask-preserved : goal.loop-ask-preserved
loop-ask-preserved c = search (rules, arith, length_push, run_more)

pub unreachable-requires : goal.unreachable-requires
unreachable-requires c = search (rules, arith)
