use Rattle.std.proofs.Common.{arith, rules}
use Rattle.std.proofs.lemmas.Bool.{cases_lt}
use Rattle.journal.proofs.Scan.{none_near}
use Rattle.journal.proofs.ending.has_later.Goals as goal

pub returns-clause-none : goal.returns-clause-none
returns-clause-none g c same clean sectors number above most = search (rules, arith, cases_lt, none_near)
