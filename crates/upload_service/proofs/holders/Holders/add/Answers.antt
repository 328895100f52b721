use Rattle.std.proofs.Common.{◌≡◌, sym, ◌∙◌, ap, map as list_map}
use Rattle.std.specs.Prelude.{◌||◌}
use Rattle.std.specs.Arc.{arc_value}
use Rattle.std.specs.List.{list_any}
use Rattle.upload_service.specs.Machine.{same}
use Rattle.upload_service.specs.Kept.Holders.{names_in}
use Rattle.upload_service.proofs.Keeping.Holding.{known_one, name_more}
use Rattle.upload_service.proofs.holders.Holders.add.Goals as goal

pub returns-then-has-clause-ok : goal.returns-then-has-clause-ok
returns-then-has-clause-ok c = known_one c.args.self.now (arc_value c.args.name) (sym c.has.ensures ∙ c.if-has.true)

pub returns-in_ok-insert-in-Several-clause-ok : goal.returns-in_ok-insert-in-Several-clause-ok
returns-in_ok-insert-in-Several-clause-ok c = λ q.
    let names : list_map arc_value c.deref_mut.result.now.keys ≡ c.args.self.now =
    ap (λ s. list_map arc_value s.keys) c.deref_mut.ensures.value ∙ ap names_in (sym c.in-Several.is)
    ∙ c.self.view_is in
    name_more c.args.name c.deref_mut.result.now.keys c.insert.new.self.keys
    c.in_ok-insert-in-Several.ensures.updates.0 q
    ∙ ap (λ names. same q (arc_value c.args.name) || list_any (same q) names) names
