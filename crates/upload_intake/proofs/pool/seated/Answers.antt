use Rattle.std.proofs.Common.{sym, subst, arith, rules}
use Rattle.std.specs.Prelude.{All}
use Rattle.upload_keeper.specs.Seats.{IsFresh}
use Rattle.upload_intake.proofs.pool.seated.Goals as goal

pub returns-clause-of_one_call : goal.returns-clause-of_one_call
returns-clause-of_one_call g c = search (rules, arith)

pub returns-clause-seats : goal.returns-clause-seats
returns-clause-seats g c = subst (λ l. All IsFresh l) (sym c.in_ok-stations.ensures.seats) c.in_ok-keeper.ensures.seats

pub returns-clause-servers : goal.returns-clause-servers
returns-clause-servers g c = grind arith
