use Rattle.std.proofs.Common.{subst, [], refl, ◌∙◌}
use Rattle.std.proofs.lemmas.List.{append-nil}
use Rattle.upload_client.specs.AskText.{message_of}
use Rattle.http_wire.specs.Writing.{Wrote}
use Rattle.http_wire.proofs.GatherLemmas.{gathered_none}
use Rattle.upload_client.proofs.AskTextLemmas.{whole_text}
use Rattle.upload_client.proofs.ask.write_ask.Goals as goal

pub returns-clause-wrote : goal.returns-clause-wrote
returns-clause-wrote g c =
    let start = g.W.ByteSink.state c.args.writer.now in
    let new = g.W.ByteSink.state c.finish.new.writer in
    let nothing = gathered_none start c.new-head.result c.new-head.ensures in
    let wrote =
    c.finish.ensures.wrote start _ (c.put_body.ensures start _
    (c.put_section.ensures start _ (c.put_host.ensures start _ (c.put_request_line.ensures start [] nothing)))) in
    subst (λ t. Wrote start new t c.finish.result)
    (append-nil _ ∙ whole_text c.args.ask.now c.args.host.now (message_of c.args.ask.now).body refl) wrote
