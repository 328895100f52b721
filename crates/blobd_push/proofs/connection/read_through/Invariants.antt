use Rattle.std.proofs.Common.{◌≡◌}
use Rattle.blobd_push.proofs.connection.read_through.Given as goal

-- nothing was given by the reads that a signal ended
abbrev pub invariant-loop : goal.invariant-loop
invariant-loop g l = g.S.Inlet.given l.stream ≡ g.S.Inlet.given l.initial.stream
