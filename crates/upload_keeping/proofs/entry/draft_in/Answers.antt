use Rattle.std.proofs.Common.{[], ◌∷◌}
use Rattle.upload_keeper.specs.Safety.{asked}
use Rattle.upload_keeping.proofs.Entries.{drafted_so, placed_in}
use Rattle.upload_store.specs.Safe.{IsSafe}
use Rattle.upload_store.specs.Store.{shelf_of}
use Rattle.upload_keeping.proofs.entry.draft_in.Goals as goal

pub returns : goal.returns
returns g c =
    let stands = IsSafe g.S.Shelf.held g.S.Shelf.may_leave (shelf_of c.args.store.now) in
    drafted_so stands (asked c.args.ask.now c.args.secret.now c.args.moment) (c.args.file ∷ []) c.made.result
    c.of.result
    (placed_in stands c.args.ask.now c.args.body.now c.args.file c.requires.is c.file_is_sound.ensures c.requires.safe
    c.requires.len)
    c.ask_is_sound.ensures c.given_is_sound.ensures.0 c.given_is_sound.ensures.1 c.of.ensures c.made.ensures
