use Rattle.std.proofs.Common.{arith}
use Rattle.upload_store.proofs.Reading.{reads_none}
use Rattle.upload_store.proofs.rerun.RerunMachine.apply.Goals as goal

pub returns-in-Ok-clause-step : goal.returns-in-Ok-clause-step
returns-in-Ok-clause-step g c =
    let ok = c.in-Ok.ensures.ok in
    let files = c.args.self.now.files in
    let since = c.in-Ok.ensures.keeps files
    (reads_none g.S.Shelf.held g.S.Shelf.may_leave g.S.Shelf.IsClean files.shelf, omega arith) in
    record { entry = ok.0; is_entry = ok.1; text_is = ok.2; applies = ok.3; reads = since.0 }

pub returns-in-Ok-clause-keeps : goal.returns-in-Ok-clause-keeps
returns-in-Ok-clause-keeps g c first kept = c.apply.ensures.keeps first.files kept

pub returns-in-Err-clause-keeps : goal.returns-in-Err-clause-keeps
returns-in-Err-clause-keeps g c first kept = c.apply.ensures.keeps first.files kept
