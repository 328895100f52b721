use Rattle.upload_store.specs.Store.{IsClean, shelf_of, kept_of}
use Rattle.upload_store.proofs.Crashes.{crash_same}
use Rattle.upload_store.proofs.store.Store.reserve.Goals as goal

pub returns-in-Ok-clause-any_crash : goal.returns-in-Ok-clause-any_crash
returns-in-Ok-clause-any_crash g c opened clean whole file files may =
    let it = c.args.self.now in
    let was_clean : IsClean it = record { disk = c.reserve.ensures.clean clean.disk; shelf = clean.shelf } in
    crash_same g.S.Shelf.held g.S.Shelf.may_leave (shelf_of it) (shelf_of it) (λ n bytes h. h) (kept_of it)
    (whole was_clean) files may.bodies _ (c.reserve.ensures.any_crash opened clean.disk file may.journal)

pub returns-in-Err-clause-any_crash : goal.returns-in-Err-clause-any_crash
returns-in-Err-clause-any_crash g c opened clean whole file files may =
    let it = c.args.self.now in
    let was_clean : IsClean it = record { disk = c.reserve.ensures.clean clean.disk; shelf = clean.shelf } in
    crash_same g.S.Shelf.held g.S.Shelf.may_leave (shelf_of it) (shelf_of it) (λ n bytes h. h) (kept_of it)
    (whole was_clean) files may.bodies _ (c.reserve.ensures.any_crash opened clean.disk file may.journal)
