use Rattle.std.proofs.Common.{◌≡◌, Some, None, sym, ◌∙◌, ap}
use Rattle.std.specs.Prelude.{is_some, IfSome}
use Rattle.std.specs.Cmp.Lexicographic.{nat_list_cmp_total}
use Rattle.std.specs.FinMap as map
use Rattle.std.specs.Option.{option_map}
use Rattle.upload_service.specs.Machine.{Table, Session}
use Rattle.upload_service.specs.Kept.Entries.{session_of}
use Rattle.upload_service.specs.declared.sessions.OpenSession.{OpenSession}
use Rattle.upload_service.proofs.Keeping.Kept.{get-kept}
use Rattle.upload_service.proofs.Keeping.Swept.{keys_exact, with_received, received_same}
use Rattle.upload_service.proofs.sessions.Sessions.front.Goals as goal

pub returns-clause-front : goal.returns-clause-front
returns-clause-front g c =
    let old : OpenSession = c.in-Some.session.now in
    let has : option_map (λ (s : Session). s.received) (map.get c.args.self.now c.args.at.now) ≡ Some old.received =
    ap (λ (m : Table Session). option_map (λ (s : Session). s.received) (map.get m c.args.at.now)) (sym c.self.view_is)
    ∙ ap (option_map (λ (s : Session). s.received))
    (get-kept nat_list_cmp_total keys_exact session_of c.self.inside.open.entries c.args.at.now
    ∙ ap (option_map session_of) (sym c.in-Some.ensures.value)) in
    elim c.front.result as (λ r. IfSome r (λ f. f ≡ old.received) → IfSome r (λ f. option_map (λ (s : Session). s.received)
    (map.get c.args.self.now c.args.at.now) ≡ Some f)) [
      | Some f ↦ λ is. has ∙ ap Some (sym is)
      | None ↦ λ _. tt
    ] c.front.ensures.front

pub returns-clause-same : goal.returns-clause-same
returns-clause-same g c =
    received_same _ _ _ c.in-Some.session.now _ c.in-Some.ensures.value
    (((c.get_mut.follows.holds (with_received c.in-Some.session.now c.front.new.self)).3
    (ap is_some (sym c.in-Some.ensures.value))).0) c.front.ensures.same
    ∙ c.self.view_is
