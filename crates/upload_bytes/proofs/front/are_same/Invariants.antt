use Rattle.std.proofs.Common.{◌≡◌, length, take}
use Rattle.upload_bytes.proofs.front.are_same.Given as goal

abbrev pub invariant-loop-i : goal.invariant-loop-i
invariant-loop-i l = (length l.parts ≡ length l.others) × (take l.i l.parts ≡ take l.i l.others)
