use Rattle.std.specs.Prelude.{IfSome, IfNone}
use Rattle.std.proofs.Common.{◌-◌, ◌≤◌, Option, Some, None, IsTrue, ◌+◌, arith, rules}
use Rattle.journal.specs.Format.{whole, sector}
use Rattle.journal.specs.Reads.{IsHead, IsNoHead, FindsStaged}
use Rattle.journal.specs.declared.head.Head.{Head}
use Rattle.journal.proofs.replay.read_staged.Given.{Over}
use Rattle.journal.proofs.replay.read_staged.Goals.{After-head_in}
use Rattle.journal.proofs.Listing.{is_whole}
use Rattle.journal.proofs.Scan.{none_staged, none_headed, found_staged}
use Rattle.journal.proofs.replay.read_staged.Goals as goal

pub returns-then-len-at-clause-found : goal.returns-then-len-at-clause-found
returns-then-len-at-clause-found g c clean =
    cc (none_staged (g.D.Disk.seen c.args.disk.now) c.args.at c.args.number (omega (arith, c.requires.measured clean)))

if_some : {A : Type 0} (P Q : A → Type 0) (o : Option A) → ((x : A) → P x → Q x) → IfSome o P → IfSome o Q
if_some P Q None more is = is
if_some P Q (Some x) more is = more x is

found : (g : Over) (c : After-head_in g) (head : Option Head) → IsTrue (g.D.Disk.is_clean c.read.new.disk)
    → IfSome head (IsHead c.args.number c.read.new.bytes) → IfSome head (λ it. whole (32 + it.len) ≤ c.args.len - c.args.at - sector)
    → IfNone head (IsNoHead c.args.number (c.args.len - c.args.at - sector) c.read.new.bytes)
    → FindsStaged (g.D.Disk.seen c.args.disk.now) c.args.at c.args.number head
found g c head h1 h2 h3 h4 = search (rules, arith, none_headed, found_staged)

pub returns-clause-found : goal.returns-clause-found
returns-clause-found g c clean = search (rules, arith, found)

pub returns-clause-records : goal.returns-clause-records
returns-clause-records g c = search (rules, arith, if_some, is_whole)
