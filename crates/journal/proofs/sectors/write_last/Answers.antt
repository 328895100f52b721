use Rattle.std.proofs.Common.{arith, rules}
use Rattle.journal.proofs.Listing.{is_whole}
use Rattle.journal.proofs.Tears.{torn_wider, follows_wider}
use Rattle.journal.proofs.sectors.write_last.Goals as goal

pub returns-clause-others : goal.returns-clause-others
returns-clause-others g c = grind (arith, is_whole, torn_wider)

pub returns-clause-crash : goal.returns-clause-crash
returns-clause-crash g c = search (rules, arith, is_whole, follows_wider)
