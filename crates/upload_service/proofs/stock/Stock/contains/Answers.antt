use Rattle.std.proofs.Common.{arith, rules}
use Rattle.upload_service.proofs.Keeping.Stocked.{get_sha256, get_sha512, contains_sha256, contains_sha512}
use Rattle.upload_service.proofs.Keeping.Stocked.{held_is_there}
use Rattle.upload_service.proofs.Keeping.Stocked.{not_known}
use Rattle.upload_service.proofs.stock.Stock.contains.Goals as goal

pub returns-in-Sha256-clause-is : goal.returns-in-Sha256-clause-is
returns-in-Sha256-clause-is c = search (rules, arith, contains_sha256)

pub returns-in-Sha256-clause-there : goal.returns-in-Sha256-clause-there
returns-in-Sha256-clause-there c = search (rules, arith, get_sha256, held_is_there)

pub returns-in-Sha512-clause-is : goal.returns-in-Sha512-clause-is
returns-in-Sha512-clause-is c = search (rules, arith, contains_sha512)

pub returns-in-Sha512-clause-there : goal.returns-in-Sha512-clause-there
returns-in-Sha512-clause-there c = search (rules, arith, get_sha512, held_is_there)

pub returns-in_default-clause-is : goal.returns-in_default-clause-is
returns-in_default-clause-is c =
    cc (not_known c.self.inside.names _ c.self.invariant c.args.name.now c.args.digest.now c.in_default.ensures.none)
