use Rattle.std.proofs.Common.{ap}
use Rattle.upload_keeping.specs.Books.{recorded_in}
use Rattle.upload_keeping.proofs.Going.{is_fine, one_round_more, kept_round, kept_before}
use Rattle.upload_keeping.proofs.books.Books.keep.Goals as goal

pub returns-in-Ok-clause-kept : goal.returns-in-Ok-clause-kept
returns-in-Ok-clause-kept g c kept =
    let b = c.args.self.now in
    kept_round b kept (is_fine b.fault c.is_some.result c.is_some.ensures c.if-is_some.false) c.keep_round.new.store
    c.keep_round.new.batch c.in-Ok.next c.and.result c.none.result c.in-Ok.ensures.kept c.in-Ok.ensures.empty
    (one_round_more b.kept c.and.result b.waiting c.and.ensures) (ap recorded_in c.none.ensures)

pub returns-in-Err-clause-kept : goal.returns-in-Err-clause-kept
returns-in-Err-clause-kept g c kept =
    let b = c.args.self.now in
    kept_before b kept (is_fine b.fault c.is_some.result c.is_some.ensures c.if-is_some.false) c.keep_round.new.store
    c.keep_round.new.batch c.in-Err.fault c.in-Err.ensures.tried c.keep_round.ensures.goes
