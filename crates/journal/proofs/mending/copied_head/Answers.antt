use Rattle.std.proofs.Common.{rules, ◌≡◌, ◌+◌, length, ℕ, List, ◌-◌, arith}
use Rattle.sqlite_disk.specs.Disk.{Holds}
use Rattle.journal.specs.Errors.{Never}
use Rattle.journal.specs.Format.{sector}
use Rattle.journal.specs.Mending.{HasHead, AreNear, copy_at, head_at}
use Rattle.journal.specs.Reads.{IsNoHead}
use Rattle.journal.proofs.Commit.{first_held}
use Rattle.journal.proofs.Listing.{span_some}
use Rattle.journal.proofs.Places.{held}
use Rattle.journal.proofs.mending.copied_head.Goals as goal

-- what was read is what stands there
copied : (file mid bytes : List ℕ) (at : ℕ) → mid ≡ file → length bytes ≡ 32 → Holds mid (at + 1) bytes
    → copy_at file at ≡ bytes
copied file mid bytes at same long holds = cc (held mid (at + 1) bytes holds)

-- the head behind the gate, as it was read
headed : (file mid bytes : List ℕ) (at : ℕ) → mid ≡ file → length bytes ≡ 32 → Holds mid (at + sector) bytes
    → head_at file at ≡ bytes
headed file mid bytes at same long holds = cc (held mid (at + sector) bytes holds)

pub returns-clause-is : goal.returns-clause-is
returns-clause-is g c clean = grind (arith, first_held, copied)

pub returns-then-len-at-clause-none : goal.returns-then-len-at-clause-none
returns-then-len-at-clause-none g c clean has =
    let some = span_some (copy_at (g.D.Disk.seen c.args.disk.now) c.args.at) in
    absurd (omega (arith, some, has.fits, c.requires.measured clean, c.if-len-at.true))

other : (at number len : ℕ) (file head : List ℕ) → copy_at file at ≡ head → len ≡ length file
    → IsNoHead number (len - at - sector) head → HasHead file at number → Never
other at number len file head h1 h2 h3 = search (rules, arith)

pub returns-then-is_none-clause-none : goal.returns-then-is_none-clause-none
returns-then-is_none-clause-none g c clean = search (rules, arith, other, copied)

far : (at number : ℕ) (file copy head : List ℕ) → copy_at file at ≡ copy → head_at file at ≡ head
    → (AreNear copy head → Never) → HasHead file at number → Never
far at number file copy head is there not has = search (rules, arith)

pub returns-then-not-are_near-clause-none : goal.returns-then-not-are_near-clause-none
returns-then-not-are_near-clause-none g c clean = search (rules, arith, far, copied, headed)
