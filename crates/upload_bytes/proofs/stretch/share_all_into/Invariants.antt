use Rattle.std.proofs.Common.{◌≡◌, ◌++◌, take}
use Rattle.upload_bytes.proofs.stretch.share_all_into.Given as goal

abbrev pub invariant-loop-stretch : goal.invariant-loop-stretch
invariant-loop-stretch l = l.shares.items ≡ l.fn.shares.items ++ take l.stretch-index l.stretches
