use Rattle.std.proofs.Common.{rules, ◌≡◌, [], ◌∷◌, ◌++◌}
use Rattle.journal.specs.Batch.{batch_records}
use Rattle.upload_keeping.proofs.Entries.{entered}
use Rattle.upload_store.specs.Safe.{IsSafe}
use Rattle.upload_store.specs.Store.{shelf_of}
use Rattle.upload_keeping.proofs.entry.put_entry.Goals as goal

pub returns : goal.returns
returns g c request xs drafted holds =
    let stands = IsSafe g.S.Shelf.held g.S.Shelf.may_leave (shelf_of c.args.store.now) in
    let grown : batch_records c.add.new.self ≡ batch_records c.args.batch.now ++ c.in-Some.text.items ∷ [] =
    search rules in
    entered stands request xs (batch_records c.args.batch.now) (batch_records c.add.new.self) c.args.draft
    c.in-Some.text.items c.args.answer.now drafted c.answer_is_sound.ensures c.in-Some.ensures grown holds
