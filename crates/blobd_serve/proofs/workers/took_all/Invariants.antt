use Rattle.std.specs.Prelude.{◌≡◌, ◌<◌, ℕ, get_or}
use Rattle.upload_intake.specs.declared.work.WorkerEnd.{WorkerEnd}
use Rattle.blobd_serve.proofs.workers.took_all.Given as goal

abbrev pub invariant-loop-at : goal.invariant-loop-at
invariant-loop-at l = (k : ℕ) (d : WorkerEnd) → k < l.at → (get_or l.ends.items k d).conns ≡ l.count
