use Rattle.std.proofs.Common.{◌≡◌, ◌∙◌, sym, ap, true, true≢false, Option, None}
use Rattle.std.specs.Prelude.{is_some}
use Rattle.std.specs.FinMap as map
use Rattle.std.specs.FinMap.{FinMap}
use Rattle.std.specs.Prelude.{List}
use Rattle.upload_names.specs.Digest.{digest_cmp}
use Rattle.upload_service.proofs.Keeping.Tables.{digests_total, digests_exact}
use Rattle.upload_claims.specs.declared.change.Stretch.{Stretch}
use Rattle.upload_claims.specs.declared.change.Change.TheVariants as changes
use Rattle.upload_claims.specs.Claims.{Claims}
use Rattle.upload_claims.specs.Fold.{apply}
use Rattle.upload_claims.proofs.Tables.{get-insert_same}
use Rattle.upload_claims.proofs.Closing.{closes_nothing, closes_as}
use Rattle.upload_claims.proofs.claimed.Claimed.close.Goals as goal

is_none : {X : Type 0} (o : Option X) → None ≡ o → is_some o ≡ true → ⊥
is_none o e t = true≢false (sym t ∙ ap is_some (sym e))

pub returns-then-not-ends_at-clause-ok : goal.returns-then-not-ends_at-clause-ok
returns-then-not-ends_at-clause-ok c =
    let s = c.self.inside in
    let had : Claims =
    record { uploads = s.uploads; blobs = s.blobs; pairs = s.pairs; issued = s.issued; told = s.told } in
    closes_nothing had c.args.at.now c.args.digest c.args.end c.close.new.self c.close.ensures.left
    (sym c.ends_at.ensures ∙ c.if-not-ends_at.true)
    ∙ ap (λ (d : Claims). apply d (changes.Closed c.args.at.now c.args.digest c.args.end)) c.self.view_is

pub unreachable-requires : goal.unreachable-requires
unreachable-requires c = is_none _ c.in_default.ensures.bodies (sym c.ends_at.ensures ∙ c.if-not-ends_at.false)

pub put_over-requires : goal.put_over-requires
put_over-requires c =
    ap is_some (ap (λ (m : FinMap digest_cmp (List Stretch)). map.get m c.args.digest) c.in_ok-put.ensures.ok
    ∙ get-insert_same digests_total digests_exact c.self.inside.blobs c.args.digest c.new.result.items)

pub returns-clause-ok : goal.returns-clause-ok
returns-clause-ok c =
    let s = c.self.inside in
    let had : Claims =
    record { uploads = s.uploads; blobs = s.blobs; pairs = s.pairs; issued = s.issued; told = s.told } in
    closes_as had c.args.at.now c.args.digest c.args.end c.close-2.new.self c.put.new.self c.put_over.new.self
    c.in-Some.bodies.items c.in-Some.ensures.left c.in-Some.ensures.bodies
    (c.in_ok-put.ensures.ok
    ∙ ap (λ (bodies : List Stretch). map.insert c.self.inside.blobs c.args.digest bodies) c.new.ensures.items)
    c.put_over.ensures
    ∙ ap (λ (d : Claims). apply d (changes.Closed c.args.at.now c.args.digest c.args.end)) c.self.view_is
