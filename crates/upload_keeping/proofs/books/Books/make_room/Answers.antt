use Rattle.std.proofs.Common.{sym, ◌∙◌, arith, rules}
use Rattle.upload_keeping.proofs.Going.{is_fine, goes_by_shelf, kept_with_room, kept_shut}
use Rattle.upload_keeping.proofs.books.Books.make_room.Goals as goal

pub returns-in-Ok-clause-kept : goal.returns-in-Ok-clause-kept
returns-in-Ok-clause-kept g c kept =
    let b = c.args.self.now in
    let r = c.reserve in
    kept_with_room b kept (is_fine b.fault c.is_some.result c.is_some.ensures c.if-is_some.false) r.new.self
    (goes_by_shelf b.store r.new.self r.ensures.shelf r.ensures.clean) r.ensures.shelf c.in-Ok.ensures.open
    (r.ensures.same c.in-Ok.ensures.open)

pub returns-then-is_open-clause-kept : goal.returns-then-is_open-clause-kept
returns-then-is_open-clause-kept g c kept =
    let b = c.args.self.now in
    let r = c.reserve in
    let up = sym c.is_open.ensures.is ∙ c.if-is_open.true in
    kept_with_room b kept (is_fine b.fault c.is_some.result c.is_some.ensures c.if-is_some.false) r.new.self
    (goes_by_shelf b.store r.new.self r.ensures.shelf r.ensures.clean) r.ensures.shelf up (r.ensures.same up)

pub returns-else-is_want_of_room-clause-kept : goal.returns-else-is_want_of_room-clause-kept
returns-else-is_want_of_room-clause-kept g c kept = search (rules, arith, kept_shut, is_fine, goes_by_shelf)
