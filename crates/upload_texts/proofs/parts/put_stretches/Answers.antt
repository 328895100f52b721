use Rattle.std.proofs.Common.{◌≡◌, ◌++◌, ◌+◌, List, ℕ, length, take, ap, sym, subst, ◌∙◌, arith, append_assoc}
use Rattle.std.specs.List.{concat}
use Rattle.std.proofs.lemmas.List.{append-nil}
use Rattle.std.proofs.Math.Seq.{take-length}
use Rattle.http_wire.specs.Inner.Gathering.{Gathered}
use Rattle.http_wire.proofs.WritingLemmas.{concat-take_next}
use Rattle.upload_texts.proofs.parts.put_stretches.Goals as goal

pub loop-stretch-init : goal.loop-stretch-init
loop-stretch-init g c = λ start text h.
    subst (Gathered start (g.W.ByteSink.state c.args.writer.now) c.args.head.now) (sym (append-nil text)) h

pub loop-stretch-preserved : goal.loop-stretch-preserved
loop-stretch-preserved g c = λ start text h.
    let stretches : List (List ℕ) = c.args.stretches.now in
    let at = c.loop-stretch.stretch-index in
    let whole : (text ++ concat (take at stretches)) ++ c.stretch-item.result ≡ text ++ concat (take (at + 1) stretches) =
    append_assoc text (concat (take at stretches)) c.stretch-item.result
    ∙ ap (λ r. text ++ (concat (take at stretches) ++ r)) c.stretch-item.is
    ∙ ap (λ r. text ++ r) (sym (concat-take_next stretches at c.stretch-item.result
    (omega (arith, c.loop-stretch-test.true, c.loop-stretch.auto.stretch-index-end)))) in
    subst (Gathered start (g.W.ByteSink.state c.put_stretch.new.writer) c.put_stretch.new.head) whole
    (c.put_stretch.ensures start (text ++ concat (take at stretches)) (c.loop-stretch.invariant start text h))

pub returns : goal.returns
returns g c = λ start text h.
    let stretches : List (List ℕ) = c.args.stretches.now in
    let end : c.loop-stretch.stretch-index ≡ length stretches =
    omega (arith, c.loop-stretch-test.false, c.loop-stretch.auto.stretch-index-end) in
    subst (λ t. Gathered start (g.W.ByteSink.state c.loop-stretch.writer) c.loop-stretch.head (text ++ concat t))
    (ap (λ n. take n stretches) end ∙ take-length stretches) (c.loop-stretch.invariant start text h)
