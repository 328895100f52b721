use Rattle.std.proofs.Common.{arith, rules}
use Rattle.http_wire.proofs.Heads.HeadLemmas.{none_at_next, judged_at, given_up}
use Rattle.http_wire.proofs.head.judge_at.Goals as goal

pub returns-then-text-at-ne10 : goal.returns-then-text-at-ne10
returns-then-text-at-ne10 g c = search (rules, arith, none_at_next)

pub returns-then-lines-le-MAX_FIELDS : goal.returns-then-lines-le-MAX_FIELDS
returns-then-lines-le-MAX_FIELDS g c = search (rules, arith, judged_at)

pub returns-in-Open : goal.returns-in-Open
returns-in-Open g c =
    given_up g.G.Grammar.spans.words c.args.text.now c.args.at c.args.lines c.requires.in_range c.requires.short
    c.requires.counted c.requires.none_before
    c.if-text-at-ne10.false c.if-lines-le-MAX_FIELDS.false c.in-Open.ensures

pub returns-in_default : goal.returns-in_default
returns-in_default g c = search (rules, arith, judged_at)
