use Rattle.std.proofs.Common.{◌∙◌, ap, subst, []}
use Rattle.std.proofs.lemmas.List.{append-nil}
use Rattle.http_wire.specs.HeadText.{bad_status, status_line}
use Rattle.http_wire.specs.Writing.{Wrote}
use Rattle.http_wire.proofs.GatherLemmas.{gathered_none}
use Rattle.http_wire.proofs.Heads.HeadTextLemmas.{bad_text}
use Rattle.http_wire.proofs.refusal.write_bad.Goals as goal

pub returns-clause-wrote : goal.returns-clause-wrote
returns-clause-wrote g c =
    let start = g.W.ByteSink.state c.args.writer.now in
    let new = g.W.ByteSink.state c.finish.new.writer in
    let line = c.as_bytes.ensures.value ∙ c.line.ensures ∙ ap status_line c.bad_status.ensures in
    let held =
    c.put_end.ensures start _ (c.put_length.ensures start _
    (c.put.ensures start [] (gathered_none start c.new-head.result c.new-head.ensures))) in
    subst (λ t. Wrote start new t c.finish.result) (append-nil _ ∙ bad_text [] (bad_status c.args.why) line)
    (c.finish.ensures.wrote start _ held)
