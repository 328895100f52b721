use Rattle.std.proofs.Common.{rules}
use Rattle.std.proofs.Common.{ap, refl, arith, length-append}
use Rattle.std.specs.Prelude.{is_some}
use Rattle.upload_service.specs.Machine.{Replies}
use Rattle.upload_service.proofs.Serving.{does, lacks}
use Rattle.upload_service.proofs.turn.chunk.Goals as goal

pub returns-in-Err-clause-turn : goal.returns-in-Err-clause-turn
returns-in-Err-clause-turn c = does _ _ _ (Replies c.in-Err.answer) _ _ c.in-Err.ensures.err.chunk refl refl

pub append-requires-clause-open : goal.append-requires-clause-open
append-requires-clause-open c = ap is_some c.in-Ok.ensures.ok.is_open

pub append-requires-clause-fits : goal.append-requires-clause-fits
append-requires-clause-fits c = search (rules, arith)

pub overflow_add-next : goal.overflow_add-next
overflow_add-next c = search (rules, arith)

pub returns-in-Ok-append-clause-turn : goal.returns-in-Ok-append-clause-turn
returns-in-Ok-append-clause-turn c = search (rules, arith, length-append, does)

pub returns-in-Err-append-clause-turn : goal.returns-in-Err-append-clause-turn
returns-in-Err-append-clause-turn c = search (rules, arith, lacks)

pub returns-in_default-clause-turn : goal.returns-in_default-clause-turn
returns-in_default-clause-turn c = search (rules, arith, lacks)
