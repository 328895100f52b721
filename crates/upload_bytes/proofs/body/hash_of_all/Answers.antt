use Rattle.std.proofs.Common.{[], ◌++◌, List, ℕ, subst, Some}
use Rattle.std.specs.List.{concat}
use Rattle.upload_names.specs.declared.digest.Algorithm.{Algorithm as By}
use Rattle.upload_bytes.specs.Running.{HoldsBy}
use Rattle.upload_bytes.specs.Prefixes.{HoldsPrefix, HoldsIfAny}
use Rattle.upload_bytes.proofs.body.hash_of_all.Goals as goal

pub returns : goal.returns
returns g c =
    let parts : List (List ℕ) = c.args.parts.now in
    let held : HoldsIfAny (Some c.in-Some.hash) parts = subst (λ h. HoldsIfAny h parts) c.in-Some.is c.requires in
    let all : HoldsBy held.0 c.in-Some-into_hash.hash (concat parts) =
    c.in-Some-into_hash.ensures held.0 [] held.1 in
    (held.0, c.with.ensures held.0 (concat parts) all)
