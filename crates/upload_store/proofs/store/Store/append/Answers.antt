use Rattle.upload_store.specs.Store.{IsClean, shelf_of, kept_of}
use Rattle.upload_store.proofs.Crashes.{crash_either, safe_either}
use Rattle.journal.specs.Batch.{kept_at}
use Rattle.upload_store.proofs.store.Store.append.Goals as goal

pub returns-in-Ok-clause-any_crash : goal.returns-in-Ok-clause-any_crash
returns-in-Ok-clause-any_crash g c opened clean whole safe file files may =
    let it = c.args.self.now in
    let was_clean : IsClean it = record { disk = c.append.ensures.clean clean.disk; shelf = clean.shelf } in
    crash_either g.S.Shelf.held g.S.Shelf.may_leave (shelf_of it) (kept_of it) (kept_at c.args.time c.args.batch.now)
    (whole was_clean) safe files may.bodies _ (c.append.ensures.any_crash opened clean.disk file may.journal)

pub returns-in-Err-clause-any_crash : goal.returns-in-Err-clause-any_crash
returns-in-Err-clause-any_crash g c opened clean whole safe file files may =
    let it = c.args.self.now in
    let was_clean : IsClean it = record { disk = c.append.ensures.clean clean.disk; shelf = clean.shelf } in
    crash_either g.S.Shelf.held g.S.Shelf.may_leave (shelf_of it) (kept_of it) (kept_at c.args.time c.args.batch.now)
    (whole was_clean) safe files may.bodies _ (c.append.ensures.any_crash opened clean.disk file may.journal)

pub returns-in-Ok-clause-whole : goal.returns-in-Ok-clause-whole
returns-in-Ok-clause-whole g c opened whole safe clean =
    let it = c.args.self.now in
    let was_clean : IsClean it = record { disk = c.append.ensures.clean clean.disk; shelf = clean.shelf } in
    safe_either g.S.Shelf.held g.S.Shelf.may_leave (shelf_of it) (kept_of it) (kept_at c.args.time c.args.batch.now)
    (whole was_clean) safe _ (c.append.ensures.any_crash opened clean.disk _ (g.met.D.Disk.seen_may_stay _))

pub returns-in-Err-clause-whole : goal.returns-in-Err-clause-whole
returns-in-Err-clause-whole g c opened whole safe clean =
    let it = c.args.self.now in
    let was_clean : IsClean it = record { disk = c.append.ensures.clean clean.disk; shelf = clean.shelf } in
    safe_either g.S.Shelf.held g.S.Shelf.may_leave (shelf_of it) (kept_of it) (kept_at c.args.time c.args.batch.now)
    (whole was_clean) safe _ (c.append.ensures.any_crash opened clean.disk _ (g.met.D.Disk.seen_may_stay _))
