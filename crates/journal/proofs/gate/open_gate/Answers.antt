use Rattle.std.proofs.Common.{◌≡◌, ◌+◌, length, take, drop, sym, ap, ◌∙◌, arith, rules}
use Rattle.std.proofs.lemmas.Result.{on_ok_weaker}
use Rattle.std.proofs.lemmas.List.{drop-take}
use Rattle.journal.specs.Mending.{copy_at}
use Rattle.journal.proofs.Scan.{part_held}
use Rattle.journal.proofs.gate.open_gate.Goals as goal

pub returns-clause-copied : goal.returns-clause-copied
returns-clause-copied g c =
    let file = g.D.Disk.seen c.write_sectors.new.disk in
    let text = c.sector_of.result in
    let long : length text ≡ 4096 = search rules in
    let held = part_held file c.args.gate text 1 32 (c.in_ok-write_sectors.ensures.written (omega (arith, long)))
    (omega (arith, long)) in
    let all : 33 ≡ 1 + length c.args.head.now = search rules in
    on_ok_weaker c.sync.result (λ durable.
    ap (λ f. copy_at f c.args.gate) c.sync.ensures.seen ∙ held ∙ sym (drop-take 1 32 text)
    ∙ ap (λ n. drop 1 (take n text)) all ∙ ap (λ l. drop 1 l) c.sector_of.ensures) c.sync.ensures.durable
