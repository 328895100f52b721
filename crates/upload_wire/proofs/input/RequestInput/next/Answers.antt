use Rattle.std.proofs.Common.{arith, rules}
use Rattle.upload_wire.proofs.RequestLemmas.{held_next}
use Rattle.upload_wire.proofs.input.RequestInput.next.Goals as goal

pub returns-clause-found : goal.returns-clause-found
returns-clause-found g c = search (rules, arith, held_next)
