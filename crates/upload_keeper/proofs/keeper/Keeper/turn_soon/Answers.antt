use Rattle.std.proofs.Common.{arith, rules}
use Rattle.upload_keeper.proofs.KeeperMoves.{grows_none, grows_twice, same_keeper_twice}
use Rattle.upload_keeper.proofs.Safely.{follows_by, kept_by, kept_none, kept_twice}
use Rattle.upload_keeper.proofs.keeper.Keeper.turn_soon.Goals as goal

pub loop-init : goal.loop-init
loop-init g c = search (rules, arith, grows_none, kept_none)

pub returns-then-turn-clause-grows : goal.returns-then-turn-clause-grows
returns-then-turn-clause-grows g c = search (rules, arith, grows_twice)

pub returns-then-turn-clause-since : goal.returns-then-turn-clause-since
returns-then-turn-clause-since g c = kept_twice _ _ _ _ _ _ c.loop.invariant.since c.turn.ensures.since

pub returns-then-not-linger-clause-grows : goal.returns-then-not-linger-clause-grows
returns-then-not-linger-clause-grows g c = search (rules, arith, grows_twice)

pub returns-then-not-linger-clause-since : goal.returns-then-not-linger-clause-since
returns-then-not-linger-clause-since g c = search (rules, arith, kept_by, kept_twice)

pub loop-preserved : goal.loop-preserved
loop-preserved g c = grind (arith, same_keeper_twice, grows_twice, follows_by, kept_by, kept_twice)
