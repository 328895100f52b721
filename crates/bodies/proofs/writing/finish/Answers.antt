use Rattle.bodies.proofs.Shelves.{then_same}
use Rattle.bodies.proofs.writing.finish.Goals as goal

-- src/writing.rt:51:5
pub returns-in_err-sync-clause-others : goal.returns-in_err-sync-clause-others
returns-in_err-sync-clause-others g c =
    then_same g.S.Shelf.held g.S.Shelf.may_leave c.close.ensures.others c.number-number.ensures c.sync.ensures.same

-- src/writing.rt:36:1
pub returns-clause-others : goal.returns-clause-others
returns-clause-others g c =
    then_same g.S.Shelf.held g.S.Shelf.may_leave c.close.ensures.others c.number-number.ensures c.sync.ensures.same
