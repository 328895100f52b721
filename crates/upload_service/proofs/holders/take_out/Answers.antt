use Rattle.std.proofs.Common.{◌≡◌, false, sym, ◌∙◌, map as list_map, arith, rules}
use Rattle.std.specs.Arc.{arc_value}
use Rattle.std.specs.List.{list_any}
use Rattle.upload_service.specs.Machine.{same}
use Rattle.upload_service.proofs.Keeping.Holding.{by_value, name_less, alone_absent, was_alone}
use Rattle.upload_service.proofs.holders.take_out.Goals as goal

pub returns-then-not-remove-clause-only : goal.returns-then-not-remove-clause-only
returns-then-not-remove-clause-only c =
    let absent : list_any (same (arc_value c.args.name.now)) (list_map arc_value c.args.names.now.keys) ≡ false =
    sym (by_value c.args.name.now c.args.names.now.keys) ∙ sym c.remove.ensures.test ∙ c.if-not-remove.true in
    sym (alone_absent (list_map arc_value c.args.names.now.keys) (arc_value c.args.name.now) absent)

pub returns-then-not-remove-clause-removed : goal.returns-then-not-remove-clause-removed
returns-then-not-remove-clause-removed c = search (rules, arith, name_less)

pub returns-clause-only : goal.returns-clause-only
returns-clause-only c =
    was_alone (arc_value c.args.name.now) c.args.names.now.keys c.remove.new.self.keys c.is_empty.result
    (sym (by_value c.args.name.now c.args.names.now.keys) ∙ sym c.remove.ensures.test ∙ c.if-not-remove.false)
    (name_less c.args.name.now c.args.names.now.keys c.remove.new.self.keys c.remove.ensures.updates.0)
    c.is_empty.ensures

pub returns-clause-removed : goal.returns-clause-removed
returns-clause-removed c = search (rules, arith, name_less)
