use Rattle.std.proofs.Common.{◌≡◌}
use Rattle.blobd_serve.proofs.paced.write_excerpt_in_time.Given as goal

-- nothing was taken by the writes that were made again
abbrev pub invariant-loop : goal.invariant-loop
invariant-loop g l = g.S.Outlet.taken l.stream ≡ g.S.Outlet.taken l.initial.stream
