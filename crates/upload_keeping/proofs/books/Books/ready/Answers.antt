use Rattle.std.proofs.Common.{arith, rules}
use Rattle.upload_keeping.proofs.books.Books.ready.Goals as goal

pub returns-clause-ready : goal.returns-clause-ready
returns-clause-ready g c kept = search (rules, arith)
