use Rattle.std.proofs.Common.{ℕ, ◌<◌}
use Rattle.std.proofs.lemmas.List.Elements.{All-from_get_or}
use Rattle.upload_push.proofs.world.is_secret.Goals as goal

pub returns : goal.returns
returns c =
    let byte : ℕ → Type 0 = λ b. b < 256 in
    record {
      twelve = c.requires;
      bytes = All-from_get_or byte c.args.secret.now 0 (λ i below. (c.type_inv.secret i).fits);
    }
