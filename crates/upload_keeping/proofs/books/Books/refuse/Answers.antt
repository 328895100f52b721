use Rattle.std.proofs.Common.{arith, rules}
use Rattle.upload_keeping.proofs.Going.{is_fine, goes_nowhere, kept_stopped}
use Rattle.upload_keeping.proofs.books.Books.refuse.Goals as goal

pub returns-clause-kept : goal.returns-clause-kept
returns-clause-kept g c kept = search (rules, arith, kept_stopped, is_fine, goes_nowhere)
