use Rattle.std.proofs.Common.{arith, rules}
use Rattle.upload_keeper.proofs.Safely.{follows_safely, follows_by}
use Rattle.upload_keeper.proofs.keeper.Keeper.round.Goals as goal

pub keep-requires : goal.keep-requires
keep-requires g c = follows_safely c.headline_holds.ensures _ _ _ _ c.turns.ensures.follows

pub reply_all-requires : goal.reply_all-requires
reply_all-requires g c = search (rules, arith, follows_by)
