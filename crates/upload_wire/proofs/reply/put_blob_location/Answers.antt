use Rattle.std.proofs.Common.{◌∙◌, subst}
use Rattle.upload_wire.proofs.ReplyLemmas.{blob_text}
use Rattle.http_wire.specs.Inner.Gathering.{Gathered}
use Rattle.upload_wire.proofs.reply.put_blob_location.Goals as goal

pub returns : goal.returns
returns g c = λ start before held.
    let name = c.as_bytes.ensures.value ∙ c.as_str.ensures.text in
    let sum = c.as_bytes-2.ensures ∙ c.text.ensures.text in
    subst (Gathered start (g.W.ByteSink.state c.put-5.new.writer) c.put-5.new.self)
    (blob_text before name sum)
    (c.put-5.ensures start _
    (c.put-4.ensures start _ (c.put-3.ensures start _ (c.put-2.ensures start _ (c.put.ensures start before held)))))
