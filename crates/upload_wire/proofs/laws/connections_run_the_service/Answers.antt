use Rattle.upload_wire.proofs.ServiceLemmas.{run_of_conversation}
use Rattle.upload_wire.proofs.laws.connections_run_the_service.Goals as goal

pub returns : goal.returns
returns c = run_of_conversation
