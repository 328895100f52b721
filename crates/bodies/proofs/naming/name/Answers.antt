use Rattle.std.proofs.Common.{refl}
use Rattle.bodies.proofs.Shelves.{then_same}
use Rattle.bodies.proofs.naming.name.Goals as goal

pub returns-in_err-sync-clause-others : goal.returns-in_err-sync-clause-others
returns-in_err-sync-clause-others g c =
    then_same g.S.Shelf.held g.S.Shelf.may_leave c.name.ensures.others refl c.sync.ensures.same

pub returns-clause-others : goal.returns-clause-others
returns-clause-others g c =
    then_same g.S.Shelf.held g.S.Shelf.may_leave c.name.ensures.others refl c.sync.ensures.same
