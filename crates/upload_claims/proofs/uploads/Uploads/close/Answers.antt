use Rattle.std.proofs.Common.{◌==◌, ◌∙◌, sym, ap, Bool, cond, Some, None}
use Rattle.std.specs.Cmp.Lexicographic.{nat_list_cmp_total}
use Rattle.std.specs.FinMap as map
use Rattle.upload_service.specs.Machine.{Table}
use Rattle.upload_service.proofs.Keeping.Kept.{kept-remove}
use Rattle.upload_service.proofs.Keeping.Swept.{keys_exact}
use Rattle.upload_claims.specs.Claims.{Upload, end_of}
use Rattle.upload_claims.specs.Kept.{upload_of}
use Rattle.upload_claims.proofs.Rows.{closed_of}
use Rattle.upload_claims.proofs.uploads.Uploads.close.Goals as goal

pub returns-in_default-clause-left : goal.returns-in_default-clause-left
returns-in_default-clause-left c =
    kept-remove nat_list_cmp_total keys_exact upload_of c.self.inside.rows.entries c.remove.new.self.entries
    c.args.at.now c.remove.ensures.updates.0
    ∙ ap (λ (m : Table Upload). map.remove m c.args.at.now) c.self.view_is

pub returns-in_default-clause-bodies : goal.returns-in_default-clause-bodies
returns-in_default-clause-bodies c =
    sym (closed_of c.self.inside.rows.entries c.args.self.now c.self.view_is c.args.at.now None c.args.end
    c.in_default.ensures.value)

pub returns-then-not-is_next-clause-left : goal.returns-then-not-is_next-clause-left
returns-then-not-is_next-clause-left c =
    kept-remove nat_list_cmp_total keys_exact upload_of c.self.inside.rows.entries c.remove.new.self.entries
    c.args.at.now c.remove.ensures.updates.0
    ∙ ap (λ (m : Table Upload). map.remove m c.args.at.now) c.self.view_is

pub returns-then-not-is_next-clause-bodies : goal.returns-then-not-is_next-clause-bodies
returns-then-not-is_next-clause-bodies c =
    let bodies = c.in-Some.upload.bodies.items in
    let no = ap (λ xs. end_of xs == c.args.end) (sym c.as_slice.ensures.value) ∙ sym c.is_next.ensures
    ∙ c.if-not-is_next.true in
    sym (closed_of c.self.inside.rows.entries c.args.self.now c.self.view_is c.args.at.now (Some c.in-Some.upload)
    c.args.end c.in-Some.ensures.value ∙ ap (λ (b : Bool). cond b (Some bodies) None) no)

pub returns-clause-left : goal.returns-clause-left
returns-clause-left c =
    kept-remove nat_list_cmp_total keys_exact upload_of c.self.inside.rows.entries c.remove.new.self.entries
    c.args.at.now c.remove.ensures.updates.0
    ∙ ap (λ (m : Table Upload). map.remove m c.args.at.now) c.self.view_is

pub returns-clause-bodies : goal.returns-clause-bodies
returns-clause-bodies c =
    let bodies = c.in-Some.upload.bodies.items in
    let yes = ap (λ xs. end_of xs == c.args.end) (sym c.as_slice.ensures.value) ∙ sym c.is_next.ensures
    ∙ c.if-not-is_next.false in
    sym (closed_of c.self.inside.rows.entries c.args.self.now c.self.view_is c.args.at.now (Some c.in-Some.upload)
    c.args.end c.in-Some.ensures.value ∙ ap (λ (b : Bool). cond b (Some bodies) None) yes)
