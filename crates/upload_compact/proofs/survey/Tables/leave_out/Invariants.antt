use Rattle.std.specs.List.{All}
use Rattle.upload_compact.specs.Leaving.{IsNotReferenced}
use Rattle.upload_compact.proofs.survey.Tables.leave_out.Given as goal

abbrev pub invariant-loop-digest : goal.invariant-loop-digest
invariant-loop-digest l = All (IsNotReferenced l.fn.leaving) l.gone.items
