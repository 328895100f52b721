use Rattle.std.proofs.Common.{◌≡◌, rules}
use Rattle.embed_service.specs.AtOnce.{at_once}
use Rattle.embed_service.proofs.Moments.{served}
use Rattle.embed_service.proofs.serve.Goals as goal

pub returns-clause-headline : goal.returns-clause-headline
returns-clause-headline c =
    let jobs : c.in_ok-collect.field-0.items ≡ at_once c.args.asks.items = search rules in
    served c.run_all.result c.args.service.now c.run_all.new.self c.args.asks.items c.in_ok-collect.field-0.items jobs
    c.run_all.ensures.headline
