use Rattle.std.proofs.Common.{◌≡◌, ◌++◌, take}
use Rattle.upload_bytes.proofs.stretch.share_parts_into.Given as goal

abbrev pub invariant-loop-part : goal.invariant-loop-part
invariant-loop-part l = l.shares.items ≡ l.fn.shares.items ++ take l.part-index l.parts
