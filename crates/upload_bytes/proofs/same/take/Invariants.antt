use Rattle.std.proofs.Common.{◌≡◌, ◌++◌, ℕ, List}
use Rattle.std.specs.List.{concat}
use Rattle.upload_bytes.proofs.same.take.Given as goal

abbrev pub invariant-loop : goal.invariant-loop
invariant-loop l =
    (rest : List ℕ) → l.piece.now ++ concat l.behind.now ≡ l.wanted ++ rest
    → l.fn.piece.now ++ concat l.fn.behind.now ≡ l.fn.bytes ++ rest
