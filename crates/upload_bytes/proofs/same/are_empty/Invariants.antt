use Rattle.std.proofs.Common.{◌≡◌, [], take}
use Rattle.std.specs.List.{concat}
use Rattle.upload_bytes.proofs.same.are_empty.Given as goal

abbrev pub invariant-loop-part : goal.invariant-loop-part
invariant-loop-part l = concat (take l.part-index l.parts) ≡ []
