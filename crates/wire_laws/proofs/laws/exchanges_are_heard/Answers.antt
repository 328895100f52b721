use Rattle.wire_laws.proofs.WrittenExchanges.{exchanges_heard}
use Rattle.wire_laws.proofs.laws.exchanges_are_heard.Goals as goal

pub returns : goal.returns
returns c = exchanges_heard
