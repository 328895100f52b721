use Rattle.std.proofs.Common.{arith, rules}
use Rattle.upload_service.proofs.Keeping.Stocked.{get_sha256, get_sha512, blobs_sha256, blobs_sha512, same_pairs_sha256}
use Rattle.upload_service.proofs.Keeping.Stocked.{same_pairs_sha512, still_known}
use Rattle.upload_service.proofs.stock.Stock.put.Goals as goal

pub put_under-requires : goal.put_under-requires
put_under-requires c = search (rules, arith, get_sha256)

pub returns-in-Sha256-clause-blobs : goal.returns-in-Sha256-clause-blobs
returns-in-Sha256-clause-blobs c = search (rules, arith, blobs_sha256)

pub returns-in-Sha256-clause-pairs : goal.returns-in-Sha256-clause-pairs
returns-in-Sha256-clause-pairs c =
    cc (same_pairs_sha256 c.self.inside.sha256.entries c.put_under.new.items.entries c.self.inside.sha512.entries c.put_under.ensures.held)

pub put_under-requires-in-Sha512 : goal.put_under-requires-in-Sha512
put_under-requires-in-Sha512 c = search (rules, arith, get_sha512)

pub returns-in-Sha512-clause-blobs : goal.returns-in-Sha512-clause-blobs
returns-in-Sha512-clause-blobs c = search (rules, arith, blobs_sha512)

pub returns-in-Sha512-clause-pairs : goal.returns-in-Sha512-clause-pairs
returns-in-Sha512-clause-pairs c =
    cc (same_pairs_sha512 c.self.inside.sha256.entries c.self.inside.sha512.entries c.put_under-in-Sha512.new.items.entries c.put_under-in-Sha512.ensures.held)

pub invariant_of-self : goal.invariant_of-self
invariant_of-self c = search (rules, arith, still_known, same_pairs_sha256)

pub invariant_of-self-in-Sha512 : goal.invariant_of-self-in-Sha512
invariant_of-self-in-Sha512 c = search (rules, arith, still_known, same_pairs_sha512)
