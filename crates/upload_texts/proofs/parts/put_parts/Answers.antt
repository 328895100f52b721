use Rattle.std.proofs.Common.{◌≡◌, ◌++◌, ◌+◌, List, ℕ, length, take, ap, sym, subst, ◌∙◌, arith, append_assoc}
use Rattle.std.specs.List.{concat}
use Rattle.std.proofs.lemmas.List.{append-nil}
use Rattle.std.proofs.Math.Seq.{take-length}
use Rattle.http_wire.specs.Inner.Gathering.{Gathered}
use Rattle.http_wire.proofs.WritingLemmas.{concat-take_next}
use Rattle.upload_texts.proofs.parts.put_parts.Goals as goal

pub loop-part-init : goal.loop-part-init
loop-part-init g c = λ start text h.
    subst (Gathered start (g.W.ByteSink.state c.args.writer.now) c.args.head.now) (sym (append-nil text)) h

pub loop-part-preserved : goal.loop-part-preserved
loop-part-preserved g c = λ start text h.
    let parts : List (List ℕ) = c.args.parts.now in
    let at = c.loop-part.part-index in
    let whole : (text ++ concat (take at parts)) ++ c.as_slice.result.now ≡ text ++ concat (take (at + 1) parts) =
    append_assoc text (concat (take at parts)) c.as_slice.result.now
    ∙ ap (λ r. text ++ (concat (take at parts) ++ r)) (c.as_slice.ensures ∙ c.part-item.is)
    ∙ ap (λ r. text ++ r) (sym (concat-take_next parts at c.part-item.result
    (omega (arith, c.loop-part-test.true, c.loop-part.auto.part-index-end)))) in
    subst (Gathered start (g.W.ByteSink.state c.put.new.writer) c.put.new.self) whole
    (c.put.ensures start (text ++ concat (take at parts)) (c.loop-part.invariant start text h))

pub returns : goal.returns
returns g c = λ start text h.
    let parts : List (List ℕ) = c.args.parts.now in
    let end : c.loop-part.part-index ≡ length parts =
    omega (arith, c.loop-part-test.false, c.loop-part.auto.part-index-end) in
    subst (λ t. Gathered start (g.W.ByteSink.state c.loop-part.writer) c.loop-part.head (text ++ concat t))
    (ap (λ n. take n parts) end ∙ take-length parts) (c.loop-part.invariant start text h)
