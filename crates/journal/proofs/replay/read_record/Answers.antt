use Rattle.std.proofs.lemmas.Grind.{common_steps}
use Rattle.std.proofs.Common.{◌≡◌, ◌+◌, ◌-◌, [], length, take, drop, Some, None, arith, rules, ap, sym, subst, ◌∙◌}
use Rattle.std.proofs.Common.{length-drop, length-take}
use Rattle.std.proofs.lemmas.List.{nil_from_length, drop_all, drop-take}
use Rattle.journal.specs.Reads.{FindsSize}
use Rattle.journal.proofs.Places.{take_within}
use Rattle.journal.proofs.Reading.{first_nil}
use Rattle.journal.proofs.replay.read_record.Goals as goal

pub returns-then-at-end-clause-found : goal.returns-then-at-end-clause-found
returns-then-at-end-clause-found g c clean =
    grind (arith, common_steps, nil_from_length, length-drop, length-take, first_nil)

pub returns-in_default-clause-found : goal.returns-in_default-clause-found
returns-in_default-clause-found g c clean =
    let seen = g.D.Disk.seen c.args.disk.now in
    let file = take c.args.end seen in
    let at = c.args.at in
    let mid_clean = c.read_to.ensures.reads.clean clean in
    let long : length file ≡ c.args.end = omega (
      arith,
      length-take c.args.end seen,
      c.requires.measured (c.read_size.ensures.reads.clean mid_clean),
      c.requires.fits,
    ) in
    let part : FindsSize file at None = subst (λ n. FindsSize file at n) c.in_default.is
    (c.in_ok-size.ensures.found mid_clean) in
    let body : take (c.args.end - at) (drop at seen) ≡ c.read_to.new.bytes.items =
    ap (λ l. take (c.args.end - at) (drop at l)) (sym c.read_size.ensures.reads.seen) ∙ c.in_ok-read_to.ensures.read
    clean in
    let on : at + (c.args.end - at) ≡ c.args.end = omega (arith, c.requires.within) in
    let rest : drop at file ≡ c.read_to.new.bytes.items =
    ap (λ n. drop at (take n seen)) (sym on) ∙ drop-take at (c.args.end - at) seen ∙ body in
    part (omega (arith, length-drop at file, long, c.if-at-end.false, c.requires.within))
    ∙ ap (λ l. Some (l, [])) rest
    ∙ ap (λ l. Some (c.read_to.new.bytes.items, l)) (sym (drop_all c.args.end file (omega (arith, long))))

pub returns-clause-found : goal.returns-clause-found
returns-clause-found g c clean = search (rules, arith, take_within)
