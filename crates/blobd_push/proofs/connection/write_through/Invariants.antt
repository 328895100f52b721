use Rattle.std.proofs.Common.{◌≡◌}
use Rattle.blobd_push.proofs.connection.write_through.Given as goal

-- nothing was taken by the writes that a signal ended
abbrev pub invariant-loop : goal.invariant-loop
invariant-loop g l = g.S.Outlet.taken l.stream ≡ g.S.Outlet.taken l.initial.stream
