use Rattle.upload_wire.proofs.UnambiguousRequests.{requests_are_unambiguous}
use Rattle.upload_wire.proofs.laws.requests_are_unambiguous.Goals as goal

pub returns : goal.returns
returns c = requests_are_unambiguous
