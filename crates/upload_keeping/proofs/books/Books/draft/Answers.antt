use Rattle.upload_keeping.proofs.Going.{is_fine, kept_moved, kept_stopped, alone_made}
use Rattle.upload_keeping.proofs.books.Books.draft.Goals as goal

pub returns-in-Ok-clause-kept : goal.returns-in-Ok-clause-kept
returns-in-Ok-clause-kept g c kept =
    let b = c.may_be_written.new.self in
    kept_moved b (c.may_be_written.ensures.kept (c.make_room.ensures.kept kept))
    (is_fine b.fault c.is_some.result c.is_some.ensures c.if-is_some.false)
    c.draft_of-drafted.new.store c.draft_of-drafted.ensures.goes c.draft_of-drafted.ensures.journal

pub returns-in-Ok-clause-ready : goal.returns-in-Ok-clause-ready
returns-in-Ok-clause-ready g c kept = record {
  drafted = c.in-Ok.ensures.drafted;
  alone =
      alone_made c.may_be_written.new.self (c.may_be_written.ensures.kept (c.make_room.ensures.kept kept))
      c.draft_of-drafted.new.store
      c.in-Ok.drafted.before.value c.in-Ok.drafted.file c.in-Ok.ensures.before
      c.draft_of-drafted.ensures.journal c.in-Ok.ensures.aside;
}

pub returns-then-is_want_of_room-clause-kept : goal.returns-then-is_want_of_room-clause-kept
returns-then-is_want_of_room-clause-kept g c kept =
    let b = c.may_be_written.new.self in
    kept_moved b (c.may_be_written.ensures.kept (c.make_room.ensures.kept kept))
    (is_fine b.fault c.is_some.result c.is_some.ensures c.if-is_some.false)
    c.draft_of-drafted.new.store c.draft_of-drafted.ensures.goes c.draft_of-drafted.ensures.journal

pub returns-else-is_want_of_room-clause-kept : goal.returns-else-is_want_of_room-clause-kept
returns-else-is_want_of_room-clause-kept g c kept =
    let b = c.may_be_written.new.self in
    kept_stopped b (c.may_be_written.ensures.kept (c.make_room.ensures.kept kept))
    (is_fine b.fault c.is_some.result c.is_some.ensures c.if-is_some.false)
    c.draft_of-drafted.new.store c.draft_of-drafted.ensures.goes c.draft_of-drafted.ensures.journal c.in-Err.fault
    c.kept_is_on_the_disk.ensures
