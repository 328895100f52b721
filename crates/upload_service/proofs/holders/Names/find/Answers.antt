use Rattle.std.proofs.Common.{arith, rules}
use Rattle.upload_service.proofs.Keeping.Holding.{is_name, is_no_key}
use Rattle.upload_service.proofs.holders.Names.find.Goals as goal

pub returns-clause-found : goal.returns-clause-found
returns-clause-found c =
    is_name c.self.inside.shared.entries c.args.name.now c.self.invariant c.get.result c.get.ensures.value

pub returns-clause-none : goal.returns-clause-none
returns-clause-none c = search (rules, arith, is_no_key)
