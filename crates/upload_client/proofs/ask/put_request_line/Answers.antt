use Rattle.std.proofs.Common.{◌∙◌, sym, ap, subst, ◌++◌}
use Rattle.http_wire.specs.Inner.Gathering.{Gathered}
use Rattle.upload_client.specs.AskText.{request_line, message_of}
use Rattle.upload_client.proofs.AskTextLemmas.{single_line, mount_put, close_line}
use Rattle.upload_client.proofs.ask.put_request_line.Goals as goal

pub returns-in-Single : goal.returns-in-Single
returns-in-Single g c = λ start before held.
    subst (λ t. Gathered start (g.W.ByteSink.state c.put_single.new.writer) c.put_single.new.head (before ++ t))
    (single_line c.in-Single.name c.in-Single.digest c.in-Single.body
    ∙ ap (λ a. request_line (message_of a)) (sym c.in-Single.is)) (c.put_single.ensures start before held)

pub returns-in-Mount : goal.returns-in-Mount
returns-in-Mount g c = λ start before held.
    let put = c.put_mounted.ensures start _ (c.put_target-in-Mount.ensures start before held) in
    subst (Gathered start (g.W.ByteSink.state c.put_mounted.new.writer) c.put_mounted.new.head)
    (mount_put before c.in-Mount.name c.in-Mount.digest c.in-Mount.source
    ∙ ap (λ a. before ++ request_line (message_of a)) (sym c.in-Mount.is)) put

pub returns-in-Close : goal.returns-in-Close
returns-in-Close g c = λ start before held.
    let put = c.put_query.ensures start _ (c.put_upload-in-Close.ensures start before held) in
    subst (Gathered start (g.W.ByteSink.state c.put_query.new.writer) c.put_query.new.head)
    (close_line before c.in-Close.name c.in-Close.at c.in-Close.range c.in-Close.digest c.in-Close.body
    ∙ ap (λ a. before ++ request_line (message_of a)) (sym c.in-Close.is)) put
