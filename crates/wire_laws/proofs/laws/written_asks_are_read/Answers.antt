use Rattle.wire_laws.proofs.WrittenRequests.{asks_read_back}
use Rattle.wire_laws.proofs.laws.written_asks_are_read.Goals as goal

pub returns : goal.returns
returns c = asks_read_back
