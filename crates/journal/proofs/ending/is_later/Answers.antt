use Rattle.std.proofs.Common.{◌≢◌, ◌⊎◌, inl, inr, ℕ, ◌<◌, ◌≤◌, arith, rules}
use Rattle.std.proofs.lemmas.Bool.{cases_eq}
use Rattle.journal.proofs.Ends.{later_found, none_found}
use Rattle.journal.proofs.Listing.{next_none}
use Rattle.journal.proofs.Scan.{none_near, none_shut, none_number}
use Rattle.journal.proofs.ending.is_later.Goals as goal

pub returns-then-len-at-clause-none : goal.returns-then-len-at-clause-none
returns-then-len-at-clause-none g c near clean number above most =
    cc (none_near (g.D.Disk.seen c.args.disk.now) c.args.at number (omega (arith, c.requires.measured clean, c.if-len-at.true)))

pub returns-then-gate-ne-OPEN-clause-none : goal.returns-then-gate-ne-OPEN-clause-none
returns-then-gate-ne-OPEN-clause-none g c shut clean number above most =
    cc (none_shut (g.D.Disk.seen c.args.disk.now) c.args.at number c.read.new.bytes (c.in_ok-read.ensures.read clean (search rules)) (search rules) (search rules))

-- the number that stands there is another one
other : (there count most number : ℕ) → (there ≤ count) ⊎ ((count < there) × (most < there)) → count < number
    → number ≤ most → there ≢ number
other there count most number (inl low) above within is = omega (arith, low, above, is)
other there count most number (inr high) above within is = omega (arith, high.1, within, is)

pub returns-then-number-count-clause-none : goal.returns-then-number-count-clause-none
returns-then-number-count-clause-none g c out clean number above most =
    search (rules, arith, next_none, none_number, other)

pub returns-clause-later : goal.returns-clause-later
returns-clause-later g c is clean = search (rules, arith, later_found)

pub returns-clause-none : goal.returns-clause-none
returns-clause-none g c is clean number above most =
    search (rules, arith, none_found, cases_eq, next_none, none_number)
