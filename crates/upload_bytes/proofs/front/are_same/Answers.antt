use Rattle.std.proofs.Common.{◌≡◌, ◌∷◌, [], ◌++◌, ℕ, List, arith, sym, ◌∙◌, get_or}
use Rattle.upload_bytes.proofs.Parts.{take_next}
use Rattle.upload_bytes.proofs.front.are_same.Goals as goal

pub loop-i-preserved : goal.loop-i-preserved
loop-i-preserved c =
    let parts : List (List ℕ) = c.args.parts.now in
    let others : List (List ℕ) = c.args.others.now in
    let i : ℕ = c.loop-i.i in
    let one = take_next parts i c.index-parts-i.result (omega (arith, c.loop-i-test.true, c.loop-i.auto.i-end)) in
    let other = take_next others i c.index-others-i.result (omega (arith, c.loop-i-test.true, c.loop-i.auto.i-end, c.loop-i.invariant.0)) in
    let same : get_or parts i c.index-parts-i.result ≡ get_or others i c.index-others-i.result =
    sym c.index-parts-i.is ∙ sym c.as_slice.ensures ∙ c.is_same.ensures c.if-not-is_same.false
    ∙ c.as_slice-in-loop-i.ensures ∙ c.index-others-i.is in
    (c.loop-i.invariant.0, one ∙ (λ k. c.loop-i.invariant.1 k ++ same k ∷ []) ∙ sym other)
