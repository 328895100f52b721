use Rattle.std.proofs.Common.{◌≡◌, ◌++◌}
use Rattle.upload_claims.specs.Fold.{fold}
use Rattle.upload_claims.proofs.claimed.Claimed.apply_all.Given as goal

-- the claims after the changes so far
abbrev pub invariant-loop-change : goal.invariant-loop-change
invariant-loop-change l = record {
  so_far : l.self ≡ fold l.fn.self l.yielded;
  order : l.yielded ++ l.change-iterator.rest.items ≡ l.fn.changes.items;
}
