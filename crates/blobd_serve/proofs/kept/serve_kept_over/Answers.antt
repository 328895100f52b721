use Rattle.std.proofs.Common.{ap, map}
use Rattle.blobd_serve.specs.Serving.{IsKeptOver}
use Rattle.blobd_serve.proofs.ServedLines.{ended}
use Rattle.blobd_serve.proofs.kept.serve_kept_over.Goals as goal

pub returns-in-Ok-ended : goal.returns-in-Ok-ended
returns-in-Ok-ended g c =
    let served = c.in-Ok-ended.ensures in
    ended (IsKeptOver _ _ _ _) _ c.args.addr _ _ _
    (ap
    (λ doors. record {
      doors = map g.L.Accepts.history doors;
      exchanges = g.K.Keeping.kept c.args.kept.keeping;
    }) c.in-Ok.ensures.doors) served.served
    _ _ _ _ c.in-Ok-ended.took served.took c.in-Ok.ensures.told c.print_end.ensures
