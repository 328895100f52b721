use Rattle.std.specs.Prelude.{◌≡◌, vec_len}
use Rattle.intake_tests.proofs.pushes.workers.Given as goal

abbrev pub invariant-loop : goal.invariant-loop
invariant-loop g l = vec_len l.workers ≡ l.counter
