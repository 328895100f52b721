use Rattle.std.proofs.Common.{◌∙◌, sym, ap, subst, ◌++◌}
use Rattle.http_wire.specs.Writing.{Wrote}
use Rattle.http_wire.specs.Inner.Gathering.{Held}
use Rattle.http_wire.proofs.GatherLemmas.{write_held, gathered_after, given_err}
use Rattle.http_wire.proofs.writing.Gather.put.Goals as goal

pub returns : goal.returns
returns g c = λ start before held.
    let failed = sym (ap (λ (h : Held). h.failed) c.self.view_is) ∙ c.if-self.false in
    let now = g.W.ByteSink.state c.args.writer.now in
    let new = g.W.ByteSink.state c.then_write.new.writer in
    let same = given_err _ (sym c.is_ok.ensures.value ∙ c.if-is_ok.false) c.try_extend_from_slice.ensures.err in
    let bytes = c.as_slice.ensures.value ∙ ap (λ v. v.items) same ∙ ap (λ (h : Held). h.bytes) c.self.view_is in
    let both = c.then_write.ensures _ _ c.write_all-done.ensures in
    let wrote = write_held start now new c.args.self.now before c.args.text.now c.then_write.result failed held
    (subst (λ t. Wrote now new (t ++ c.args.text.now) c.then_write.result) bytes both) in
    gathered_after start new (before ++ c.args.text.now) _ _ c.then_write.result c.is_err-self-inside.ensures.value
    c.clear.ensures wrote
