use Rattle.std.proofs.Common.{◌∙◌, ap, arith, refl, rules}
use Rattle.upload_wire.proofs.ToldLemmas.{starts_told, goes_on_told, ends_told}
use Rattle.upload_wire.proofs.connection.ConnectionServer.serve.Goals as goal

pub loop-end-init : goal.loop-end-init
loop-end-init g c = search (rules, arith, starts_told)

pub loop-end-preserved : goal.loop-end-preserved
loop-end-preserved g c = (
  goes_on_told g.D.Desk.moves g.O.Observer.told c.begin.new.self.max_body c.loop-end.self.max_body _ _ _
      c.loop-end.invariant.1 c.loop-end.invariant.0 (c.in_default.ensures.goes_on refl),
  c.in_default.ensures.limit ∙ c.loop-end.invariant.1,
)

pub returns-in-Some-clause-told : goal.returns-in-Some-clause-told
returns-in-Some-clause-told g c = rw (← c.self.view_is, ← ap (λ i. i.max_body) c.begin.ensures)
    (ends_told g.D.Desk.moves g.O.Observer.told c.begin.new.self.max_body c.loop-end.self.max_body _ _ _
    c.in-Some.end c.loop-end.invariant.1 c.loop-end.invariant.0 c.in-Some.ensures.stops)
