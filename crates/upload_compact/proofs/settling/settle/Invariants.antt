use Rattle.upload_compact.specs.Copies.{Copies}
use Rattle.upload_compact.proofs.settling.settle.Given as goal

abbrev pub invariant-loop-digest : goal.invariant-loop-digest
invariant-loop-digest g l = Copies l.fn.store l.store l.fn.safe l.safe
