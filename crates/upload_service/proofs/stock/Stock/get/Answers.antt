use Rattle.std.proofs.Common.{arith, rules}
use Rattle.upload_service.proofs.Keeping.Stocked.{get_sha256, get_sha512}
use Rattle.upload_service.proofs.stock.Stock.get.Goals as goal

pub returns-in-Sha256-clause-found : goal.returns-in-Sha256-clause-found
returns-in-Sha256-clause-found c = search (rules, arith, get_sha256)

pub returns-in-Sha256-clause-none : goal.returns-in-Sha256-clause-none
returns-in-Sha256-clause-none c = search (rules, arith, get_sha256)

pub returns-in-Sha512-clause-found : goal.returns-in-Sha512-clause-found
returns-in-Sha512-clause-found c = search (rules, arith, get_sha512)

pub returns-in-Sha512-clause-none : goal.returns-in-Sha512-clause-none
returns-in-Sha512-clause-none c = search (rules, arith, get_sha512)
