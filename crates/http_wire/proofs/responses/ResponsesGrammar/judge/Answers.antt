use Rattle.std.proofs.Common.{ap}
use Rattle.std.specs.Prelude.{Err}
use Rattle.http_wire.specs.Fronts.{responses}
use Rattle.http_wire.proofs.Heads.HeadLemmas.{refused_by_error}
use Rattle.http_wire.proofs.Heads.HeadLaws.{response_lines}
use Rattle.http_wire.proofs.responses.ResponsesGrammar.judge.Goals as goal

pub returns-in-Err : goal.returns-in-Err
returns-in-Err c =
    refused_by_error responses response_lines c.args.front.now c.in-Err.field-0 c.in-Err.ensures.invalid
    c.in-Err.ensures.no_room
    (λ e. c.in-Err.ensures.too_many (ap Err e))
