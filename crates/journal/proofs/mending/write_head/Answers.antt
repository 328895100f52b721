use Rattle.std.proofs.Common.{rules, ◌≡◌, ◌+◌, length, drop, take, sym, ap, ◌∙◌, arith}
use Rattle.std.proofs.lemmas.List.{take_at}
use Rattle.journal.proofs.Places.{held, take_within}
use Rattle.journal.proofs.mending.write_head.Goals as goal

pub returns-clause-written : goal.returns-clause-written
returns-clause-written g c =
    let file = g.D.Disk.seen c.write_sectors.new.disk in
    let at = c.args.at in
    let text = c.sector_of.result in
    let head = c.args.head.now in
    let long : length text ≡ 4096 = search rules in
    let head_long : length head ≡ 32 = search rules in
    ap (λ f. take 32 (drop at f)) c.sync.ensures.seen
    ∙ sym (take_within (drop at file) 0 32 4096 (omega arith))
    ∙ ap (λ l. take 32 l) (ap (λ n. take n (drop at file)) (sym long) ∙ held file at text
    (c.in_default.ensures.written (omega (arith, long))))
    ∙ sym (take_within text 0 32 (length head + _) (omega (arith, head_long))) ∙ ap (λ l. take 32 l) c.sector_of.ensures
    ∙ take_at head _ 32 head_long
