use Rattle.std.proofs.Common.{◌≡◌, ◌++◌, drop}
use Rattle.std.specs.List.{flat_map}
use Rattle.upload_claims.specs.Texts.{change_text}
use Rattle.upload_claims.proofs.writing.put_each.Given as goal

abbrev pub invariant-loop-change : goal.invariant-loop-change
invariant-loop-change l =
    l.out.items ++ flat_map change_text (drop l.change-index l.changes)
    ≡ l.fn.out.items ++ flat_map change_text l.changes
