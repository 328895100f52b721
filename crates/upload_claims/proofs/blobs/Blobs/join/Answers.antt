use Rattle.std.proofs.Common.{◌∙◌, sym, ap, List}
use Rattle.std.specs.FinMap as map
use Rattle.std.specs.FinMap.{FinMap}
use Rattle.std.specs.Map.{lookup}
use Rattle.std.proofs.lemmas.Result.{on_ok_weaker, on_err_weaker}
use Rattle.upload_names.specs.Digest.{digest_cmp}
use Rattle.upload_service.specs.Machine.{same_digest}
use Rattle.upload_service.proofs.Keeping.Kept.{kept-remove, kept-same}
use Rattle.upload_service.proofs.Keeping.Tables.{digests_total, digests_exact}
use Rattle.upload_claims.specs.declared.change.Stretch.{Stretch}
use Rattle.upload_claims.specs.Fold.{grown, with_claim}
use Rattle.upload_claims.specs.Kept.{blob_of}
use Rattle.upload_claims.proofs.BlobRows.{grown_of, not_grown, join_pushed}
use Rattle.upload_claims.proofs.blobs.Blobs.join.Goals as goal

pub returns-then-not-joins-clause-ok : goal.returns-then-not-joins-clause-ok
returns-then-not-joins-clause-ok c =
    let es = c.self.inside.stored.entries in
    kept-remove digests_total digests_exact blob_of es c.remove.new.self.entries c.args.digest.now
    c.remove.ensures.updates.0
    ∙ ap (λ (m : FinMap digest_cmp (List Stretch)). map.remove m c.args.digest.now) c.self.view_is
    ∙ sym (ap (with_claim c.args.self.now c.args.digest.now)
    (grown_of es c.args.self.now c.self.view_is c.args.digest.now c.args.from c.args.stretch
    ∙ not_grown (lookup (same_digest c.args.digest.now) es) c.args.from c.args.stretch
    (sym c.joins.ensures.is ∙ c.if-not-joins.true)))

pub returns-clause-ok : goal.returns-clause-ok
returns-clause-ok c =
    let es = c.self.inside.stored.entries in
    on_ok_weaker c.push_under.result (λ h.
    join_pushed es c.push_under.new.rows.entries c.args.digest.now c.args.from c.args.stretch
    (sym c.joins.ensures.is ∙ c.if-not-joins.false) h
    ∙ ap (λ (m : FinMap digest_cmp (List Stretch)).
    with_claim m c.args.digest.now (grown (map.get m c.args.digest.now) c.args.from c.args.stretch)) c.self.view_is)
    c.push_under.ensures.ok

pub returns-clause-err : goal.returns-clause-err
returns-clause-err c =
    on_err_weaker c.push_under.result (λ same.
    kept-same digests_total digests_exact blob_of c.self.inside.stored.entries c.push_under.new.rows.entries same
    ∙ c.self.view_is) c.push_under.ensures.err
