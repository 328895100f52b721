use Rattle.std.proofs.Common.{◌≡◌, ◌++◌, take}
use Rattle.std.specs.List.{concat}
use Rattle.upload_bytes.proofs.filing.write_parts.Given as goal

abbrev pub invariant-loop-part : goal.invariant-loop-part
invariant-loop-part l = l.file ≡ l.fn.file ++ concat (take l.part-index l.parts)
