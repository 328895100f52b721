use Rattle.std.proofs.Common.{ap, map}
use Rattle.blobd_serve.specs.Serving.{IsServedOver}
use Rattle.blobd_serve.proofs.ServedLines.{ended}
use Rattle.blobd_serve.proofs.serve.serve_over.Goals as goal

pub returns-in-Ok-ended : goal.returns-in-Ok-ended
returns-in-Ok-ended g c =
    let served = c.in-Ok-ended.ensures in
    ended (IsServedOver _ _) _ c.args.addr _ _ _ (ap (map g.L.Accepts.history) c.in-Ok.ensures.doors) served.served
    _ _ _ _ c.in-Ok-ended.took served.took c.in-Ok.ensures.told c.print_end.ensures
