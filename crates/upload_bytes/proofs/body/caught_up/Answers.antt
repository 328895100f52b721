use Rattle.std.proofs.Common.{[], List, ℕ, subst, Some}
use Rattle.upload_bytes.specs.Prefixes.{HoldsIfAny}
use Rattle.upload_bytes.proofs.body.caught_up.Goals as goal

pub returns : goal.returns
returns g c =
    let parts : List (List ℕ) = c.args.parts.now in
    let held : HoldsIfAny (Some c.in-Some.hash) parts = subst (λ h. HoldsIfAny h parts) c.in-Some.is c.requires in
    (held.0, c.catch_up.ensures held.0 [] held.1)
