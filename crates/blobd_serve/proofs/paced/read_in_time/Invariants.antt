use Rattle.std.proofs.Common.{◌≡◌}
use Rattle.blobd_serve.proofs.paced.read_in_time.Given as goal

-- nothing was given by the reads that were made again
abbrev pub invariant-loop : goal.invariant-loop
invariant-loop g l = g.S.Inlet.given l.stream ≡ g.S.Inlet.given l.initial.stream
