use Rattle.std.proofs.Common.{sym, arith, length-take}
use Rattle.std.proofs.lemmas.List.{take_all}
use Rattle.blobd_serve.proofs.shown.front.Goals as goal

pub slice_bounds-result-end : goal.slice_bounds-result-end
slice_bounds-result-end c = omega (arith, length-take 1000 c.args.text.now, c.if-text-le-MOST_SHOWN.false)

pub returns-then-text-le-MOST_SHOWN : goal.returns-then-text-le-MOST_SHOWN
returns-then-text-le-MOST_SHOWN c = sym (take_all 1000 c.args.text.now c.if-text-le-MOST_SHOWN.true)
