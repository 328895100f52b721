use Rattle.std.proofs.Common.{[], ◌∷◌, ap, sym, ◌∙◌, map as list_map}
use Rattle.std.specs.Arc.{arc_value}
use Rattle.std.specs.List.{list_any}
use Rattle.upload_service.specs.Machine.{same}
use Rattle.upload_service.specs.Kept.Holders.{names_in}
use Rattle.upload_service.proofs.Keeping.Holding.{only_one, by_value}
use Rattle.upload_service.proofs.holders.Holders.has.Goals as goal

pub returns-in-One : goal.returns-in-One
returns-in-One c =
    only_one c.same.result c.deref.result.now c.deref-in-One.result.now c.same.ensures
    ∙ (λ i. list_any (same (c.deref-in-One.ensures i)) (c.deref.ensures i ∷ []))
    ∙ ap (λ h. list_any (same (arc_value c.args.name.now)) (names_in h)) (sym c.in-One.is)
    ∙ ap (list_any (same (arc_value c.args.name.now))) c.self.view_is

pub returns-in-Several : goal.returns-in-Several
returns-in-Several c =
    c.contains.ensures
    ∙ by_value c.args.name.now c.deref-in-Several.result.now.keys
    ∙ ap (λ s. list_any (same (arc_value c.args.name.now)) (list_map arc_value s.keys)) c.deref-in-Several.ensures
    ∙ ap (λ h. list_any (same (arc_value c.args.name.now)) (names_in h)) (sym c.in-Several.is)
    ∙ ap (list_any (same (arc_value c.args.name.now))) c.self.view_is
