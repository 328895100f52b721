use Rattle.std.proofs.lemmas.Grind.{common_steps}
use Rattle.std.proofs.Common.{◌∙◌, ap, arith}
use Rattle.std.specs.List.{list_any}
use Rattle.std.specs.Arc.{arc_value}
use Rattle.std.proofs.lemmas.Result.{on_ok_weaker, on_err_weaker}
use Rattle.upload_service.specs.Machine.{same}
use Rattle.upload_service.specs.Kept.Stock.{Stocked}
use Rattle.upload_service.proofs.Keeping.Stocked.{get_sha256, get_sha512, kept_sha256, kept_sha512, blobs_sha256}
use Rattle.upload_service.proofs.Keeping.Stocked.{blobs_sha512}
use Rattle.upload_service.proofs.Keeping.Stocked.{pairs_sha256, pairs_sha512, after_either, one_more_known, still_known}
use Rattle.upload_service.proofs.stock.Stock.hold.Goals as goal

pub returns-in-Sha256-clause-blobs : goal.returns-in-Sha256-clause-blobs
returns-in-Sha256-clause-blobs c = grind (arith, common_steps, get_sha256, on_ok_weaker, blobs_sha256)

pub returns-in-Sha256-clause-pairs : goal.returns-in-Sha256-clause-pairs
returns-in-Sha256-clause-pairs c = grind (arith, common_steps, on_ok_weaker, pairs_sha256)

pub returns-in-Sha256-clause-err : goal.returns-in-Sha256-clause-err
returns-in-Sha256-clause-err c = grind (arith, on_err_weaker, kept_sha256)

pub returns-in-Sha512-clause-blobs : goal.returns-in-Sha512-clause-blobs
returns-in-Sha512-clause-blobs c = grind (arith, common_steps, get_sha512, on_ok_weaker, blobs_sha512)

pub returns-in-Sha512-clause-pairs : goal.returns-in-Sha512-clause-pairs
returns-in-Sha512-clause-pairs c = grind (arith, common_steps, on_ok_weaker, pairs_sha512)

pub returns-in-Sha512-clause-err : goal.returns-in-Sha512-clause-err
returns-in-Sha512-clause-err c = grind (arith, on_err_weaker, kept_sha512)

pub invariant_of-self-in-Sha256 : goal.invariant_of-self-in-Sha256
invariant_of-self-in-Sha256 c =
    after_either c.hold_under.result c.hold_under.ensures.held c.hold_under.ensures.err
    (λ more. one_more_known c.self.inside.names c.share.new.self _ _ (arc_value c.in-Ok.shared) _ c.self.invariant
    c.share.ensures.kept
    (ap (λ n. list_any (same n) c.share.new.self) c.in-Ok.ensures.shared ∙ c.in-Ok.ensures.known) (pairs_sha256
    c.self.inside.sha256.entries c.hold_under.new.items.entries c.self.inside.sha512.entries c.in-Sha256.key _ more))
    (λ kept. still_known c.self.inside.names c.share.new.self _ _ c.self.invariant c.share.ensures.kept
    (ap (λ (s : Stocked). s.pairs)
    (kept_sha256 c.self.inside.sha256.entries c.hold_under.new.items.entries c.self.inside.sha512.entries kept)))

pub invariant_of-self-in-Sha512 : goal.invariant_of-self-in-Sha512
invariant_of-self-in-Sha512 c =
    after_either c.hold_under-in-Sha512.result c.hold_under-in-Sha512.ensures.held c.hold_under-in-Sha512.ensures.err
    (λ more. one_more_known c.self.inside.names c.share.new.self _ _ (arc_value c.in-Ok.shared) _ c.self.invariant
    c.share.ensures.kept
    (ap (λ n. list_any (same n) c.share.new.self) c.in-Ok.ensures.shared ∙ c.in-Ok.ensures.known)
    (pairs_sha512 c.self.inside.sha256.entries c.self.inside.sha512.entries c.hold_under-in-Sha512.new.items.entries
    c.in-Sha512.key _ more))
    (λ kept. still_known c.self.inside.names c.share.new.self _ _ c.self.invariant c.share.ensures.kept
    (ap (λ (s : Stocked). s.pairs) (kept_sha512 c.self.inside.sha256.entries c.self.inside.sha512.entries
    c.hold_under-in-Sha512.new.items.entries kept)))
