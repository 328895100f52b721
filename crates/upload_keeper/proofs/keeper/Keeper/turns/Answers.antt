use Rattle.std.proofs.Common.{◌∙◌, arith, rules}
use Rattle.upload_keeper.proofs.KeeperMoves.{grows_twice, same_keeper_twice}
use Rattle.upload_keeper.proofs.Safely.{kept_twice}
use Rattle.upload_keeper.proofs.keeper.Keeper.turns.Goals as goal

pub loop-init : goal.loop-init
loop-init g c = search (rules, arith)

pub loop-preserved : goal.loop-preserved
loop-preserved g c = record {
  same = same_keeper_twice _ _ _ c.loop.invariant.same c.turn_soon.ensures.same;
  grows = grows_twice g.M.Moments.tells _ _ _ _ _ _ c.loop.invariant.same.since c.loop.invariant.grows
      c.turn_soon.ensures.grows;
  start = c.turn_soon.ensures.start ∙ c.loop.invariant.start;
  kept = c.turn_soon.ensures.kept ∙ c.loop.invariant.kept;
  follows = c.turn_soon.ensures.follows;
  since = kept_twice _ _ _ _ _ _ c.loop.invariant.since c.turn_soon.ensures.since;
}

pub returns-then-not-turn_soon-clause-grows : goal.returns-then-not-turn_soon-clause-grows
returns-then-not-turn_soon-clause-grows g c = search (rules, arith, grows_twice)

pub returns-then-not-turn_soon-clause-since : goal.returns-then-not-turn_soon-clause-since
returns-then-not-turn_soon-clause-since g c = search (rules, arith, kept_twice)
