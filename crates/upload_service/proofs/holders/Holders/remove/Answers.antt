use Rattle.std.proofs.Common.{◌≡◌, ℕ, List, [], ◌∷◌, sym, ◌∙◌, ap, map as list_map}
use Rattle.std.specs.Prelude.{◌&&◌, not}
use Rattle.std.specs.Arc.{arc_value}
use Rattle.std.specs.List.{list_any}
use Rattle.upload_service.specs.Machine.{same}
use Rattle.upload_service.specs.Kept.Holders.{names_in, is_alone}
use Rattle.upload_service.proofs.Keeping.Holding.{only_one, alone_one, absent_one}
use Rattle.upload_service.proofs.holders.Holders.remove.Goals as goal
use Rattle.upload_service.proofs.holders.Holders.remove.Goals.{in-One, in-Several}

pub returns-clause-only : goal.returns-clause-only
returns-clause-only c =
    let only : c.match-self.result ≡ is_alone (arc_value c.args.name.now) c.args.self.now =
    elim c.match-self.branch [
      | in-One w ↦
          let one : arc_value w.in-One.only ∷ [] ≡ c.args.self.now = ap names_in (sym w.in-One.is) ∙ c.self.view_is in
          w.result-is
          ∙ only_one w.same.result w.deref.result.now w.deref-in-One.result.now w.same.ensures
          ∙ (λ i. list_any (same (w.deref-in-One.ensures i)) (w.deref.ensures i ∷ []))
          ∙ alone_one (arc_value c.args.name.now) (arc_value w.in-One.only)
          ∙ ap (is_alone (arc_value c.args.name.now)) one
      | in-Several w ↦
          let several : list_map arc_value w.deref_mut.result.now.keys ≡ c.args.self.now =
          ap (λ s. list_map arc_value s.keys) w.deref_mut.ensures.value
          ∙ ap names_in (sym w.in-Several.is) ∙ c.self.view_is in
          w.result-is ∙ w.take_out.ensures.only ∙ ap (is_alone (arc_value c.args.name.now)) several
    ] in
    only

pub returns-clause-removed : goal.returns-clause-removed
returns-clause-removed c = λ out q.
    let removed : list_any (same q) (names_in c.match-self.self-inside.held)
    ≡ (not (same q (arc_value c.args.name.now)) && list_any (same q) c.args.self.now) =
    elim c.match-self.branch [
      | in-One w ↦
          let one : arc_value w.in-One.only ∷ [] ≡ c.args.self.now = ap names_in (sym w.in-One.is) ∙ c.self.view_is in
          let is : c.match-self.result ≡ list_any (same (arc_value c.args.name.now)) (arc_value w.in-One.only ∷ []) =
          w.result-is
          ∙ only_one w.same.result w.deref.result.now w.deref-in-One.result.now w.same.ensures
          ∙ (λ i. list_any (same (w.deref-in-One.ensures i)) (w.deref.ensures i ∷ [])) in
          (λ i. list_any (same q) (names_in (w.self-inside-is i).held))
          ∙ absent_one (arc_value w.in-One.only ∷ []) (arc_value c.args.name.now) (sym is ∙ out) q
          ∙ ap (λ (names : List (List ℕ)). not (same q (arc_value c.args.name.now)) && list_any (same q) names) one
      | in-Several w ↦
          let several : list_map arc_value w.deref_mut.result.now.keys ≡ c.args.self.now =
          ap (λ s. list_map arc_value s.keys) w.deref_mut.ensures.value
          ∙ ap names_in (sym w.in-Several.is) ∙ c.self.view_is in
          (λ i. list_any (same q) (names_in (w.self-inside-is i).held))
          ∙ w.take_out.ensures.removed q
          ∙ ap (λ (names : List (List ℕ)). not (same q (arc_value c.args.name.now)) && list_any (same q) names) several
    ] in
    removed
