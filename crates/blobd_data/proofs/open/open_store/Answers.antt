use Rattle.blobd_data.proofs.Opening.{begun_whole, begun_without}
use Rattle.blobd_data.proofs.open.open_store.Goals as goal

pub returns-in-Ok-clause-recovered : goal.returns-in-Ok-clause-recovered
returns-in-Ok-clause-recovered g c =
    let kept = c.in-Ok.kept in
    begun_whole c.args.limits c.args.store kept.keeping kept.service kept.since c.none.result c.requires.same
    c.in-Ok.ensures.recovered c.none.ensures.0

pub returns-in-Ok-salvage_ahead-clause-recovered : goal.returns-in-Ok-salvage_ahead-clause-recovered
returns-in-Ok-salvage_ahead-clause-recovered g c =
    let salvaged = c.in-Ok-salvage_ahead.salvaged in
    let kept = salvaged.kept in
    begun_without c.args.limits c.args.store kept.keeping kept.service kept.since salvaged.losses
    c.requires.same c.in-Ok-salvage_ahead.ensures.salvaged
