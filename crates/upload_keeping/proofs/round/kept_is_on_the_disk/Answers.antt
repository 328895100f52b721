use Rattle.upload_keeping.proofs.Crashes.{kept_left}
use Rattle.upload_keeping.proofs.round.kept_is_on_the_disk.Goals as goal

pub returns : goal.returns
returns g c opened since kept upto goes settled clean whole file files may =
    kept_left opened c.args.store.now since kept upto file files goes settled clean
    (c.is_open.ensures.durable settled.stays_open clean (settled.whole whole) file files may) may
