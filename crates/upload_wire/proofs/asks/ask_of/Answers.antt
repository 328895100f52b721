use Rattle.std.proofs.Common.{refl, ◌∙◌}
use Rattle.upload_wire.proofs.AskLemmas.{by_uri, copied_or}
use Rattle.upload_wire.proofs.asks.ask_of.Goals as goal

pub returns-in-Ok : goal.returns-in-Ok
returns-in-Ok c =
    by_uri c.args.method.now c.args.target.now c.as_bytes-in-Ok.result.now c.as_bytes.result.now
    c.method_of.result c.args.range
    c.in-Ok.uri c.ask_at.result c.in-Ok.ensures.ok (c.as_bytes-in-Ok.ensures.value ∙ c.path.ensures.value)
    c.method_of.ensures
    (c.as_bytes.ensures.value
    ∙ copied_or c.query.result _ _ c.unwrap_or.result c.query.ensures.value c.unwrap_or.ensures refl) c.ask_at.ensures
