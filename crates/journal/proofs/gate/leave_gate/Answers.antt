use Rattle.std.proofs.Common.{◌≡◌, ◌∙◌, length, take, drop, sym, ap, rules, refl}
use Rattle.std.proofs.lemmas.Result.{on_ok_weaker}
use Rattle.journal.specs.Ending.{left_gate}
use Rattle.journal.proofs.Commit.{first_held}
use Rattle.journal.proofs.Places.{held}
use Rattle.journal.proofs.gate.leave_gate.Goals as goal

pub returns-clause-shut : goal.returns-clause-shut
returns-clause-shut g c =
    on_ok_weaker c.write_sectors.result (λ written.
    first_held (g.D.Disk.seen c.write_sectors.new.disk) c.args.gate _ (written (search rules)) (search rules) ∙ refl)
    c.write_sectors.ensures.written

pub returns-clause-left : goal.returns-clause-left
returns-clause-left g c =
    let file = g.D.Disk.seen c.write_sectors.new.disk in
    let long : length left_gate ≡ 4096 = search rules in
    on_ok_weaker c.write_sectors.result (λ written.
    ap (λ n. take n (drop c.args.gate file)) (sym long) ∙ held file c.args.gate left_gate (written (search rules)))
    c.write_sectors.ensures.written
