use Rattle.std.proofs.Common.{◌≡◌, ◌+◌, List, ℕ, length, ap, sym, ◌∙◌, arith, take}
use Rattle.std.proofs.lemmas.List.{length-append}
use Rattle.std.specs.List.{concat}
use Rattle.upload_bytes.proofs.Parts.{concat-take_next}
use Rattle.upload_bytes.proofs.segments.size_of.Goals as goal

pub loop-part-preserved : goal.loop-part-preserved
loop-part-preserved c =
    let parts : List (List ℕ) = c.args.parts.now in
    let i : ℕ = c.loop-part.part-index in
    let next =
    concat-take_next parts i c.part-item.result
    (omega (arith, c.loop-part-test.true, c.loop-part.auto.part-index-end)) in
    let more : length (concat (take (i + 1) parts)) ≡ length (concat (take i parts)) + length c.as_slice.result.now =
    ap length next ∙ length-append (concat (take i parts)) _
    ∙ sym (ap (λ l. length (concat (take i parts)) + length l) (c.as_slice.ensures ∙ c.part-item.is)) in
    omega (arith, more, c.saturating_add-size.ensures, c.loop-part.invariant)
