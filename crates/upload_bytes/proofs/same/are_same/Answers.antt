use Rattle.std.proofs.Common.{◌++◌, ℕ, List, take, arith, ap, sym, ◌∙◌}
use Rattle.std.proofs.lemmas.List.{append_assoc}
use Rattle.std.specs.List.{concat}
use Rattle.upload_bytes.proofs.Parts.{concat-take_next}
use Rattle.upload_bytes.proofs.same.are_same.Goals as goal

pub loop-part-preserved : goal.loop-part-preserved
loop-part-preserved c =
    let parts : List (List ℕ) = c.args.parts.now in
    let i : ℕ = c.loop-part.part-index in
    let rest : List ℕ = c.take_part.new.piece.now ++ concat c.take_part.new.behind.now in
    let next =
    concat-take_next parts i c.part-item.result
    (omega (arith, c.loop-part-test.true, c.loop-part.auto.part-index-end)) in
    c.loop-part.invariant
    ∙ ap (λ xs. concat (take i parts) ++ xs) (c.take_part.ensures c.if-not-take_part.false)
    ∙ sym (append_assoc (concat (take i parts)) c.part-item.result rest)
    ∙ ap (λ xs. xs ++ rest)
    (ap (λ xs. concat (take i parts) ++ xs) (c.part-item.is) ∙ sym next)
