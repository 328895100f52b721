use Rattle.upload_compact.specs.Copies.{Copies}
use Rattle.upload_compact.proofs.settling.files_at.Given as goal

abbrev pub invariant-loop-place : goal.invariant-loop-place
invariant-loop-place g l = Copies l.fn.store l.store l.fn.safe l.safe
