use Rattle.std.proofs.Common.{arith, rules}
use Rattle.upload_service.proofs.Serving.{does, lacks}
use Rattle.upload_service.proofs.turn.store_blob.Goals as goal

pub returns-in_default-store-clause-turn : goal.returns-in_default-store-clause-turn
returns-in_default-store-clause-turn c = search (rules, arith, lacks)

pub returns-clause-turn : goal.returns-clause-turn
returns-clause-turn c = search (rules, arith, does)
