use Rattle.wire_laws.proofs.JoinedEnds.{connections_joined}
use Rattle.wire_laws.proofs.laws.connections_are_joined.Goals as goal

pub returns : goal.returns
returns g c = connections_joined g.D.Desk.moves
