use Rattle.std.proofs.Common.{◌∙◌, sym, ap}
use Rattle.std.specs.Cmp.Lexicographic.{nat_list_cmp_total}
use Rattle.std.specs.FinMap as map
use Rattle.std.specs.Map.{lookup}
use Rattle.std.proofs.lemmas.Result.{on_ok_weaker, on_err_weaker}
use Rattle.upload_service.specs.Machine.{Table, same}
use Rattle.upload_service.proofs.Keeping.Kept.{kept-remove, kept-same}
use Rattle.upload_service.proofs.Keeping.Swept.{keys_exact}
use Rattle.upload_claims.specs.Claims.{Upload}
use Rattle.upload_claims.specs.Fold.{taken, with_claim}
use Rattle.upload_claims.specs.Kept.{upload_of}
use Rattle.upload_claims.proofs.Rows.{taken_of, not_taken, take_pushed}
use Rattle.upload_claims.proofs.uploads.Uploads.take.Goals as goal

pub returns-then-not-takes-clause-ok : goal.returns-then-not-takes-clause-ok
returns-then-not-takes-clause-ok c =
    let es = c.self.inside.rows.entries in
    kept-remove nat_list_cmp_total keys_exact upload_of es c.remove.new.self.entries c.args.at.now
    c.remove.ensures.updates.0
    ∙ ap (λ (m : Table Upload). map.remove m c.args.at.now) c.self.view_is
    ∙ sym (ap (with_claim c.args.self.now c.args.at.now)
    (taken_of es c.args.self.now c.self.view_is c.args.at.now c.args.now c.args.from c.args.stretch
    ∙ not_taken (lookup (same c.args.at.now) es) c.args.now c.args.from c.args.stretch
    (sym c.takes.ensures.is ∙ c.if-not-takes.true)))

pub returns-clause-ok : goal.returns-clause-ok
returns-clause-ok c =
    let es = c.self.inside.rows.entries in
    on_ok_weaker c.push_under.result (λ h.
    take_pushed es c.push_under.new.rows.entries c.args.at.now c.args.now c.args.from c.args.stretch
    (sym c.takes.ensures.is ∙ c.if-not-takes.false) h
    ∙ ap (λ (m : Table Upload).
    with_claim m c.args.at.now (taken (map.get m c.args.at.now) c.args.now c.args.from c.args.stretch)) c.self.view_is)
    c.push_under.ensures.ok

pub returns-clause-err : goal.returns-clause-err
returns-clause-err c =
    on_err_weaker c.push_under.result (λ same.
    kept-same nat_list_cmp_total keys_exact upload_of c.self.inside.rows.entries c.push_under.new.rows.entries same
    ∙ c.self.view_is) c.push_under.ensures.err
