use Rattle.std.proofs.Common.{sym, subst, ◌++◌, ◌∷◌, [], arith, ◌<◌, ◌+◌, ◌*◌, rules}
use Rattle.http_wire.specs.Inner.SizeLines.{StandsAt, AreDigits}
use Rattle.http_wire.proofs.Bodies.LineLemmas.{never_cr, never_ninth, never_other, one_digit}
use Rattle.http_wire.proofs.chunked.line_step.Goals as goal

pub returns-else-byte-eq10 : goal.returns-else-byte-eq10
returns-else-byte-eq10 c = search (rules, arith, never_cr)

pub returns-then-count-eq8 : goal.returns-then-count-eq8
returns-then-count-eq8 c = search (rules, arith, never_ninth)

pub returns-in-Some : goal.returns-in-Some
returns-in-Some c = λ front held.
    let h = subst (λ s. StandsAt front s) c.in-Digits.is held in
    let few = h.few in
    let counted = h.count_is in
    let under : c.in-Digits.count < 8 = omega (arith, few, counted, c.if-count-eq8.false) in
    subst (λ d. AreDigits (front ++ c.args.byte ∷ []) (c.in-Digits.count + 1) (c.in-Digits.value * 16 + d))
    (sym c.in-Some.ensures.1)
    (one_digit front c.args.byte c.in-Digits.count c.in-Digits.value h under c.in-Some.ensures.0)

pub returns-in-None : goal.returns-in-None
returns-in-None c = search (rules, arith, never_other)
