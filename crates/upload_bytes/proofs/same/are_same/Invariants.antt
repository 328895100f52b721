use Rattle.std.proofs.Common.{◌≡◌, ◌++◌, take}
use Rattle.std.specs.List.{concat}
use Rattle.upload_bytes.proofs.same.are_same.Given as goal

abbrev pub invariant-loop-part : goal.invariant-loop-part
invariant-loop-part l = concat l.fn.others ≡ concat (take l.part-index l.parts) ++ (l.piece ++ concat l.behind)
