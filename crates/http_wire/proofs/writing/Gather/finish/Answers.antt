use Rattle.std.proofs.Common.{◌∙◌, sym, ap, subst, ◌++◌}
use Rattle.http_wire.specs.Writing.{Wrote}
use Rattle.http_wire.specs.Inner.Gathering.{Held}
use Rattle.http_wire.proofs.GatherLemmas.{write_held}
use Rattle.http_wire.proofs.writing.Gather.finish.Goals as goal

pub returns-clause-wrote : goal.returns-clause-wrote
returns-clause-wrote g c = λ start before held.
    let failed = sym (ap (λ (h : Held). h.failed) c.self.view_is) ∙ c.if-self.false in
    let bytes = c.as_slice.ensures.value ∙ ap (λ (h : Held). h.bytes) c.self.view_is in
    let now = g.W.ByteSink.state c.args.writer.now in
    let new = g.W.ByteSink.state c.then_flush.new.writer in
    let both = c.then_flush.ensures.wrote _ _ (c.then_write-done.ensures _ _ c.write_all-done.ensures) in
    write_held start now new c.args.self before c.args.body.now c.then_flush.result failed held
    (subst (λ t. Wrote now new (t ++ c.args.body.now) c.then_flush.result) bytes both)
