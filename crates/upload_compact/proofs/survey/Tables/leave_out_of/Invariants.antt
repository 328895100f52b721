use Rattle.std.specs.List.{All}
use Rattle.upload_compact.specs.Leaving.{IsNotReferenced}
use Rattle.upload_compact.proofs.survey.Tables.leave_out_of.Given as goal

abbrev pub invariant-loop-name : goal.invariant-loop-name
invariant-loop-name l =
    All (IsNotReferenced l.fn.leaving) l.fn.gone.items → All (IsNotReferenced l.fn.leaving) l.gone.items
