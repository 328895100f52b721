use Rattle.upload_store.proofs.Crashes.{crash_same}
use Rattle.upload_store.specs.Store.{shelf_of, kept_of}
use Rattle.upload_store.proofs.store.Store.is_open.Goals as goal

pub returns-clause-durable : goal.returns-clause-durable
returns-clause-durable g c opened clean whole file files may =
    let it = c.args.self.now in
    crash_same g.S.Shelf.held g.S.Shelf.may_leave (shelf_of it) (shelf_of it) (λ n bytes h. h) (kept_of it)
    (whole clean) files may.bodies _ (c.is_open.ensures.durable opened clean.disk file may.journal)
