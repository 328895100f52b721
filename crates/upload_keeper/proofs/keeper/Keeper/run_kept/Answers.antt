use Rattle.std.proofs.Common.{arith, rules}
use Rattle.upload_keeper.proofs.KeeperMoves.{grows_none, grows_twice, same_keeper_twice}
use Rattle.upload_keeper.proofs.Safely.{kept_none, kept_twice}
use Rattle.upload_keeper.proofs.keeper.Keeper.run_kept.Goals as goal

pub loop-init : goal.loop-init
loop-init g c = search (rules, arith, grows_none, kept_none)

pub loop-preserved : goal.loop-preserved
loop-preserved g c = grind (arith, same_keeper_twice, grows_twice, kept_twice)
