use Rattle.std.proofs.Common.{sym, ap}
use Rattle.std.specs.Prelude.{is_some}
use Rattle.upload_claims.specs.declared.uploads.ClaimedUpload.{ClaimedUpload}
use Rattle.upload_claims.proofs.Rows.{same_row}
use Rattle.upload_claims.proofs.BlobRows.{on_err}
use Rattle.upload_claims.proofs.uploads.push_under.Goals as goal

pub returns-in_err-push-clause-err : goal.returns-in_err-push-clause-err
returns-in_err-push-clause-err c =
    let had : ClaimedUpload = c.in-Some.upload.now in
    let row : ClaimedUpload = record { name = had.name; bodies = c.push.new.self; seen = had.seen } in
    on_err c.from_residual.result
    (same_row c.args.rows.now.entries (c.get_mut.follows.lender row).entries c.args.at.now had row
    c.in-Some.ensures.value (λ i. record { name = had.name; bodies = c.in_err-push.ensures.items i; seen = had.seen })
    ((c.get_mut.follows.holds row).3 (ap is_some (sym c.in-Some.ensures.value))).0)
