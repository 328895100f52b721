use Rattle.std.proofs.Common.{arith}
use Rattle.upload_store.proofs.Rescues.{since_then}
use Rattle.upload_store.proofs.files.FilesBodies.joined.Goals as goal

pub returns-clause-keeps : goal.returns-clause-keeps
returns-clause-keeps g c first kept =
    let faults = c.joined.ensures.faults in
    since_then g.S.Shelf.held g.S.Shelf.may_leave g.S.Shelf.IsClean g.S.Shelf.faults first.shelf c.args.self.now.shelf
    c.joined.new.self kept
    (record { all = c.joined.ensures.same; clean = c.joined.ensures.clean }, omega (arith, faults))
