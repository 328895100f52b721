use Rattle.std.proofs.Common.{arith, rules}
use Rattle.journal.proofs.Listing.{is_whole}
use Rattle.journal.proofs.head.head_in.Goals as goal

pub returns-then-len-room-clause-none : goal.returns-then-len-room-clause-none
returns-then-len-room-clause-none c = search (rules, arith, is_whole)
