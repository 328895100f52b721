use Rattle.std.proofs.Common.{◌∙◌, sym, ap, subst, ◌++◌}
use Rattle.http_wire.specs.Writing.{Wrote}
use Rattle.http_wire.specs.Inner.Gathering.{Held}
use Rattle.http_wire.proofs.GatherLemmas.{write_held, gathered_after}
use Rattle.http_wire.proofs.writing.Gather.put_excerpt.Goals as goal

pub returns : goal.returns
returns g c = λ start before held.
    let failed = sym (ap (λ (h : Held). h.failed) c.self.view_is) ∙ c.if-self.false in
    let now = g.W.ByteSink.state c.args.writer.now in
    let new = g.W.ByteSink.state c.then_write_excerpt.new.writer in
    let bytes = c.as_slice.ensures.value ∙ ap (λ (h : Held). h.bytes) c.self.view_is in
    let both = c.then_write_excerpt.ensures _ _ c.write_all-done.ensures in
    let wrote = write_held start now new c.args.self.now before c.args.excerpt.told c.then_write_excerpt.result failed held
    (subst (λ t. Wrote now new (t ++ c.args.excerpt.told) c.then_write_excerpt.result) bytes both) in
    gathered_after start new (before ++ c.args.excerpt.told) _ _ c.then_write_excerpt.result c.is_err-self-inside.ensures.value
    c.clear.ensures wrote
