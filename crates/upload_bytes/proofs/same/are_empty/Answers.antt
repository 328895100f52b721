use Rattle.std.proofs.Common.{◌≡◌, [], ◌++◌, ℕ, List, get_or, arith, sym, ◌∙◌}
use Rattle.upload_bytes.proofs.Parts.{concat-take_next}
use Rattle.upload_bytes.proofs.same.are_empty.Goals as goal

pub loop-part-preserved : goal.loop-part-preserved
loop-part-preserved c =
    let parts : List (List ℕ) = c.args.parts.now in
    let i : ℕ = c.loop-part.part-index in
    let next =
    concat-take_next parts i c.part-item.result
    (omega (arith, c.loop-part-test.true, c.loop-part.auto.part-index-end)) in
    let none : get_or parts i c.part-item.result ≡ [] =
    sym c.part-item.is ∙ c.is_none.ensures c.if-not-is_none.false in
    next ∙ (λ k. c.loop-part.invariant k ++ none k)
