use Rattle.http_wire.proofs.UnambiguousHeads.{requests_unambiguous, responses_unambiguous}
use Rattle.http_wire.proofs.laws.heads_are_unambiguous.Goals as goal

pub returns-clause-requests : goal.returns-clause-requests
returns-clause-requests c = requests_unambiguous

pub returns-clause-responses : goal.returns-clause-responses
returns-clause-responses c = responses_unambiguous
