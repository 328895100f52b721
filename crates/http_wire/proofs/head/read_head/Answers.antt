use Rattle.std.proofs.Common.{◌≡◌, arith, subst, take, rules}
use Rattle.http_wire.specs.Fronts.{HasNone}
use Rattle.http_wire.proofs.Heads.HeadLemmas.{none_at_start, too_long}
use Rattle.http_wire.proofs.GaveLemmas.{gave_none, gave_both}
use Rattle.http_wire.proofs.head.read_head.Goals as goal

pub loop-at-init : goal.loop-at-init
loop-at-init g c = search (rules, arith, none_at_start, gave_none)

pub returns-in-Complete-clause-gave : goal.returns-in-Complete-clause-gave
returns-in-Complete-clause-gave g c = search (rules, arith, gave_both)

pub returns-clause-found : goal.returns-clause-found
returns-clause-found g c =
    let same : c.loop-at.at ≡ 16384 = omega (arith, c.loop-at.auto.at-end, c.loop-at-test.false) in
    too_long g.G.Grammar.spans.words c.loop-at.input.buffer.now (omega (arith, same, c.loop-at.invariant.within))
    (subst (λ n. HasNone g.G.Grammar.spans.words (take n c.loop-at.input.buffer.now)) same c.loop-at.invariant.none)

pub returns-in-Refused-clause-gave : goal.returns-in-Refused-clause-gave
returns-in-Refused-clause-gave g c = search (rules, arith, gave_both)
