use Rattle.std.proofs.lemmas.Grind.{common_steps}
use Rattle.std.proofs.Common.{arith}
use Rattle.std.proofs.lemmas.Result.{IfOk-weaker}
use Rattle.upload_service.proofs.Whole.{headline_holds}
use Rattle.upload_service.proofs.service.Service.run_all.Goals as goal

pub returns-clause-headline : goal.returns-clause-headline
returns-clause-headline c = grind (arith, common_steps, IfOk-weaker, headline_holds)
