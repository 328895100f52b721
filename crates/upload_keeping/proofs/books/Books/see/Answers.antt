use Rattle.upload_keeping.proofs.Going.{kept_later}
use Rattle.upload_keeping.proofs.books.Books.see.Goals as goal

pub returns-clause-kept : goal.returns-clause-kept
returns-clause-kept g c kept = kept_later c.args.self.now kept _
