use Rattle.std.specs.Prelude.{◌≡◌, []}
use Rattle.upload_keeper.specs.Served.{IsSameKeeper}
use Rattle.upload_keeper.specs.Safety.{Follows, KeptSince}
use Rattle.upload_keeper.specs.Told.{Grows}
use Rattle.upload_keeper.proofs.keeper.Keeper.run_kept.Given as goal

abbrev pub invariant-loop : goal.invariant-loop
invariant-loop g l = record {
  same : IsSameKeeper l.fn.self l.keeper;
  grows : Grows g.M.Moments.tells l.fn.self l.fn.moments l.keeper l.moments;
  follows : Follows (g.K.Keeping.start l.keeping) (g.K.Keeping.kept l.keeping) (g.K.Keeping.last l.keeping) l.keeper;
  waiting : g.K.Keeping.waiting l.keeping ≡ [];
  since : KeptSince l.fn.self (g.K.Keeping.kept l.fn.keeping) l.keeper (g.K.Keeping.kept l.keeping);
}
