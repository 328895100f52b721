use Rattle.std.proofs.Common.{◌++◌, ℕ, List, take}
use Rattle.std.specs.List.{concat}
use Rattle.upload_bytes.proofs.part.take_in.Given as goal

abbrev pub invariant-loop-part : goal.invariant-loop-part
invariant-loop-part g l =
    (before : List ℕ) → g.H.Digest.holds l.fn.hash before
    → g.H.Digest.holds l.hash (before ++ concat (take l.part-index l.parts))
