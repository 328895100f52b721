use Rattle.std.proofs.Common.{◌∙◌, ap}
use Rattle.std.specs.Prelude.{bytes_eq}
use Rattle.upload_wire.proofs.RequestLemmas.{described}
use Rattle.upload_wire.proofs.request.describe.Goals as goal

pub returns-clause-found : goal.returns-clause-found
returns-clause-found c =
    described c.args.max_body c.args.head.now c.args.parsed.now _ c.of-method.result.now c.of-target.result.now
    c.range_of.result
    c.of-method.ensures c.of-target.ensures c.range_of.ensures c.in-Ok-ask_of.ensures
    (c.eq.ensures ∙ ap (bytes_eq c.of-method.result.now) c.as_slice.ensures) c.keeps_connection.ensures
    c.in-Ok.ensures.framed
