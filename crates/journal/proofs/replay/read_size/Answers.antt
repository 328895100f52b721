use Rattle.std.proofs.Common.{arith, rules}
use Rattle.journal.proofs.Scan.{part_tiny, part_past, found_size}
use Rattle.journal.proofs.replay.read_size.Goals as goal

pub returns-then-end-at-lt8-clause-found : goal.returns-then-end-at-lt8-clause-found
returns-then-end-at-lt8-clause-found g c clean = search (rules, arith, part_tiny)

pub returns-then-size-end-clause-found : goal.returns-then-size-end-clause-found
returns-then-size-end-clause-found g c clean = search (rules, arith, part_past)

pub returns-clause-found : goal.returns-clause-found
returns-clause-found g c clean = search (rules, arith, found_size)
