use Rattle.http_wire.proofs.UnambiguousBodies.{bodies_unambiguous}
use Rattle.http_wire.proofs.laws.bodies_are_unambiguous.Goals as goal

pub returns : goal.returns
returns c = bodies_unambiguous
