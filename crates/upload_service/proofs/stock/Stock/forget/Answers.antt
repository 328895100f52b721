use Rattle.std.proofs.Common.{arith, rules}
use Rattle.upload_service.proofs.Forgotten.{absent_left, remove_absent}
use Rattle.upload_service.proofs.Keeping.Forgetting.{blobs_left_sha256, blobs_left_sha512, pairs_left_sha256}
use Rattle.upload_service.proofs.Keeping.Forgetting.{pairs_left_sha512, fewer_known}
use Rattle.upload_service.proofs.Keeping.Stocked.{not_known}
use Rattle.upload_service.proofs.stock.Stock.forget.Goals as goal

pub returns-in_default-clause-blobs : goal.returns-in_default-clause-blobs
returns-in_default-clause-blobs c = search (rules, arith, not_known, absent_left)

pub returns-in_default-clause-pairs : goal.returns-in_default-clause-pairs
returns-in_default-clause-pairs c = search (rules, arith, not_known, remove_absent)

pub returns-in-Sha256-clause-blobs : goal.returns-in-Sha256-clause-blobs
returns-in-Sha256-clause-blobs c = search (rules, arith, blobs_left_sha256)

pub returns-in-Sha256-clause-pairs : goal.returns-in-Sha256-clause-pairs
returns-in-Sha256-clause-pairs c = search (rules, arith, pairs_left_sha256)

pub returns-in-Sha512-clause-blobs : goal.returns-in-Sha512-clause-blobs
returns-in-Sha512-clause-blobs c = search (rules, arith, blobs_left_sha512)

pub returns-in-Sha512-clause-pairs : goal.returns-in-Sha512-clause-pairs
returns-in-Sha512-clause-pairs c = search (rules, arith, pairs_left_sha512)

pub invariant_of-self : goal.invariant_of-self
invariant_of-self c =
    fewer_known c.self.inside.names _ _ _ c.self.invariant (pairs_left_sha256 c.self.inside.sha256.entries
    c.forget_under.new.items.entries c.self.inside.sha512.entries c.in-Sha256.key _ c.forget_under.ensures.held)

pub invariant_of-self-in-Sha512 : goal.invariant_of-self-in-Sha512
invariant_of-self-in-Sha512 c =
    fewer_known c.self.inside.names _ _ _ c.self.invariant
    (pairs_left_sha512 c.self.inside.sha256.entries c.self.inside.sha512.entries
    c.forget_under-in-Sha512.new.items.entries c.in-Sha512.key _ c.forget_under-in-Sha512.ensures.held)
