use Rattle.std.proofs.Common.{ap, ◌∙◌, subst}
use Rattle.std.specs.Prelude.{replicate}
use Rattle.upload_service.specs.Machine.{empty_state, IsLawful}
use Rattle.blobd.proofs.OnceFacts.{with_first_desk, once}
use Rattle.blobd.proofs.once.run_once.Goals as goal

pub returns : goal.returns
returns g c =
    let limits = c.limits-limits.ensures.value in
    let service = c.new-service.ensures ∙ ap (λ l. empty_state l 0) limits in
    let desk = c.new-desk.ensures ∙ ap (λ s. record { service = s; secret = replicate 12 0; now = 0 }) service in
    once c.connections_run_the_service.ensures c.headline_holds.ensures _ _ _ _ _ _ _
    (subst IsLawful service c.limits.ensures.lawful)
    (with_first_desk _ _ _ _ _ _ _ _ limits desk c.serve_connection.ensures) c.status_of.ensures
