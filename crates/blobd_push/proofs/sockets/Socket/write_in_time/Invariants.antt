use Rattle.std.proofs.Common.{◌≡◌}
use Rattle.blobd_push.proofs.sockets.Socket.write_in_time.Given as goal

-- nothing was taken by the writes that are made again
abbrev pub invariant-loop : goal.invariant-loop
invariant-loop g l = l.self.moved ≡ l.initial.self.moved
