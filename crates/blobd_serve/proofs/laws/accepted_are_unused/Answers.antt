use Rattle.std.proofs.Common.{ap}
use Rattle.blobd_serve.proofs.laws.accepted_are_unused.Goals as goal

pub returns : goal.returns
returns g c = λ old new reader writer given. (ap (λ t. t.bytes) given.1, given.2)
