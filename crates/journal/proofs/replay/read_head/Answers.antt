use Rattle.std.proofs.Common.{arith, rules}
use Rattle.journal.proofs.Scan.{none_near, none_shut, finds_open}
use Rattle.journal.proofs.replay.read_head.Goals as goal

pub returns-then-len-at-clause-found : goal.returns-then-len-at-clause-found
returns-then-len-at-clause-found g c clean =
    cc (none_near (g.D.Disk.seen c.args.disk.now) c.args.at c.args.number (omega (arith, c.requires.measured clean)))

pub returns-then-gate-ne-OPEN-clause-found : goal.returns-then-gate-ne-OPEN-clause-found
returns-then-gate-ne-OPEN-clause-found g c clean =
    cc (none_shut (g.D.Disk.seen c.args.disk.now) c.args.at c.args.number c.read.new.bytes (c.in_ok-read.ensures.read clean (search rules)) (search rules) c.if-gate-ne-OPEN.true)

pub returns-clause-found : goal.returns-clause-found
returns-clause-found g c clean = search (rules, arith, finds_open)
