use Rattle.std.specs.Prelude.{◌≡◌, ◌++◌}
use Rattle.upload_keeper.specs.Served.{IsSameKeeper}
use Rattle.upload_keeper.specs.Safety.{Follows, KeptSince}
use Rattle.upload_keeper.specs.Told.{Grows}
use Rattle.upload_keeper.proofs.keeper.Keeper.turns.Given as goal

abbrev pub invariant-loop : goal.invariant-loop
invariant-loop g l = record {
  same : IsSameKeeper l.fn.self l.self;
  grows : Grows g.M.Moments.tells l.fn.self l.fn.moments l.self l.moments;
  start : g.K.Keeping.start l.keeping ≡ g.K.Keeping.start l.fn.keeping;
  kept : g.K.Keeping.kept l.keeping ≡ g.K.Keeping.kept l.fn.keeping;
  follows : Follows (g.K.Keeping.start l.keeping) (g.K.Keeping.kept l.keeping ++ g.K.Keeping.waiting l.keeping)
      (g.K.Keeping.last l.keeping) l.self;
  since : KeptSince l.fn.self (g.K.Keeping.kept l.fn.keeping ++ g.K.Keeping.waiting l.fn.keeping) l.self
      (g.K.Keeping.kept l.keeping ++ g.K.Keeping.waiting l.keeping);
}
