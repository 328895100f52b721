use Rattle.std.proofs.Common.{◌≡◌}
use Rattle.blobd_serve.proofs.accept.Accepted.next_ends.Given as goal

-- nothing was accepted by the accepts that failed
abbrev pub invariant-loop : goal.invariant-loop
invariant-loop g l = record {
  history : g.L.Accepts.history l.self.door ≡ g.L.Accepts.history l.initial.self.door;
  left : l.self.left ≡ l.initial.self.left;
  demand : l.self.demand ≡ l.initial.self.demand;
  free : g.L.Accepts.is_free l.self.door;
}
