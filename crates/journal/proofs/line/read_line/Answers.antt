use Rattle.std.proofs.Common.{◌≡◌, ◌∙◌, length, take, sym, ap, rules}
use Rattle.journal.proofs.Places.{held}
use Rattle.journal.proofs.line.read_line.Goals as goal

pub returns-clause-read : goal.returns-clause-read
returns-clause-read g c clean fits =
    let file = g.D.Disk.seen c.args.disk.now in
    let long : length c.read.new.bytes ≡ 4096 = search rules in
    ap (λ n. take n file) (sym long) ∙ held file 0 c.read.new.bytes (c.in_ok-read.ensures.read clean (search rules))
