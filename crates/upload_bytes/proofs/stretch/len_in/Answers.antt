use Rattle.std.proofs.Common.{◌≡◌, ◌+◌, List, ℕ, length, ap, sym, ◌∙◌, arith, take}
use Rattle.std.proofs.lemmas.List.{length-append}
use Rattle.std.specs.List.{concat}
use Rattle.upload_bytes.proofs.Parts.{concat-take_next}
use Rattle.upload_bytes.proofs.stretch.len_in.Goals as goal

pub loop-stretch-preserved : goal.loop-stretch-preserved
loop-stretch-preserved c =
    let stretches : List (List ℕ) = c.args.stretches.now in
    let i : ℕ = c.loop-stretch.stretch-index in
    let next =
    concat-take_next stretches i c.stretch-item.result
    (omega (arith, c.loop-stretch-test.true, c.loop-stretch.auto.stretch-index-end)) in
    let more : length (concat (take (i + 1) stretches)) ≡ length (concat (take i stretches)) + c.len.result =
    ap length next ∙ length-append (concat (take i stretches)) _
    ∙ sym (ap (λ l. length (concat (take i stretches)) + l) (c.len.ensures ∙ ap length c.stretch-item.is)) in
    omega (arith, more, c.saturating_add-len.ensures, c.loop-stretch.invariant)
