use Rattle.std.proofs.Common.{arith, rules}
use Rattle.upload_journal.proofs.Texts.{entry_read, is_found}
use Rattle.upload_journal.proofs.reading.read_entry.Goals as goal

pub returns-clause-found : goal.returns-clause-found
returns-clause-found c = search (rules, arith, is_found)

pub returns-clause-only : goal.returns-clause-only
returns-clause-only c = search (rules, arith, entry_read)
