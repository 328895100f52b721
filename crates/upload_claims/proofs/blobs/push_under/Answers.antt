use Rattle.std.proofs.Common.{sym, ap}
use Rattle.std.specs.Prelude.{is_some}
use Rattle.upload_claims.specs.declared.blobs.ClaimedBlob.{ClaimedBlob}
use Rattle.upload_claims.proofs.BlobRows.{same_row, on_err}
use Rattle.upload_claims.proofs.blobs.push_under.Goals as goal

pub returns-in_err-push-clause-err : goal.returns-in_err-push-clause-err
returns-in_err-push-clause-err c =
    let row : ClaimedBlob = record { bodies = c.push.new.self } in
    on_err c.from_residual.result
    (same_row c.args.rows.now.entries (c.get_mut.follows.lender row).entries c.args.digest.now c.in-Some.blob.now row
    c.in-Some.ensures.value c.in_err-push.ensures.items
    ((c.get_mut.follows.holds row).3 (ap is_some (sym c.in-Some.ensures.value))).0)
