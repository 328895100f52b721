use Rattle.wire_laws.proofs.WrittenLengths.{may_be_asked}
use Rattle.wire_laws.proofs.laws.asks_may_be_asked.Goals as goal

pub returns : goal.returns
returns c = may_be_asked
