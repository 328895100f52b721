use Rattle.std.proofs.Common.{◌≡◌, ◌<◌, ℕ, arith}
use Rattle.std.proofs.lemmas.List.Elements.{All-from_get_or}
use Rattle.upload_keeper.proofs.keeper.are_typed.Goals as goal

pub returns-in-Blob : goal.returns-in-Blob
returns-in-Blob c =
    let byte : ℕ → Type 0 = λ b. b < 256 in
    record {
      twelve = c.requires;
      bytes = All-from_get_or byte c.args.secret.now 0 (λ i below. (c.type_inv.secret i).fits);
      moment = c.ranges.now.fits;
      size = λ digest size bytes is. let same : size ≡ c.in-Blob.size = cc in omega (arith, c.is_u64.ensures);
    }

pub returns-in_default : goal.returns-in_default
returns-in_default c =
    let byte : ℕ → Type 0 = λ b. b < 256 in
    record {
      twelve = c.requires;
      bytes = All-from_get_or byte c.args.secret.now 0 (λ i below. (c.type_inv.secret i).fits);
      moment = c.ranges.now.fits;
      size = λ digest size bytes is. absurd (c.in_default.not-Blob digest size bytes is);
    }
