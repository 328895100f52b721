use Rattle.std.proofs.Common.{◌≡◌, ◌∙◌, length, take, sym, ap, arith, rules}
use Rattle.std.proofs.lemmas.Result.{on_ok_weaker}
use Rattle.journal.specs.Format.{sector}
use Rattle.journal.proofs.Places.{held}
use Rattle.journal.proofs.line.write_line.Goals as goal

pub returns-clause-line : goal.returns-clause-line
returns-clause-line g c =
    let long : length c.args.line.now ≡ 4096 = search rules in
    let seen = g.D.Disk.seen c.write_sectors.new.disk in
    on_ok_weaker c.sync.result (λ synced.
    ap (λ l. take sector l) c.sync.ensures.seen ∙ ap (λ n. take n seen) (sym long) ∙ held seen 0 c.args.line.now
    (c.in_default.ensures.written (omega (arith, long)))) c.sync.ensures.synced
