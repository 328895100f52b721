use Rattle.std.proofs.Common.{◌≤◌, length, Some, subst, refl}
use Rattle.upload_service.specs.Machine.{Turn, Stores}
use Rattle.upload_service.proofs.Serving.{comes_by, single_stores}
use Rattle.upload_service.proofs.turn.restore_single.Goals as goal

pub returns : goal.returns
unfolding Turn
returns c = λ secret now.
    let fits : length c.args.blob ≤ c.args.tables.now.limits.max_blob =
    subst (λ n. n ≤ c.args.tables.now.limits.max_blob) c.len.ensures c.if-len-tables.false in
    comes_by _ _ _ (Stores c.args.name c.args.digest c.args.blob) _ _
    (single_stores c.args.tables.now.limits.max_blob c.args.name c.args.blob (Some c.args.digest) c.args.digest fits
    refl c.requires)
    (c.store_blob.ensures.turn now)
