use Rattle.std.proofs.Common.{ap}
use Rattle.upload_keeping.specs.Books.{recorded_in}
use Rattle.upload_keeping.proofs.Going.{one_round_more, kept_nothing}
use Rattle.upload_keeping.proofs.books.Books.keep_nothing.Goals as goal

pub returns-clause-kept : goal.returns-clause-kept
returns-clause-kept g c kept =
    let b = c.args.self.now in
    kept_nothing b kept c.and.result c.none.result c.requires
    (one_round_more b.kept c.and.result b.waiting c.and.ensures) (ap recorded_in c.none.ensures)
