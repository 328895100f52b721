use Rattle.std.proofs.Common.{◌++◌, [], ap, sym, subst, ◌∙◌}
use Rattle.std.proofs.lemmas.List.{append-nil}
use Rattle.http_wire.specs.Writing.{Wrote}
use Rattle.http_wire.proofs.GatherLemmas.{gathered_none}
use Rattle.upload_wire.specs.ReplyText.{reply_body, reply_head, reply_of}
use Rattle.upload_wire.proofs.reply.write_reply.Goals as goal

pub returns-then-style-clause-wrote : goal.returns-then-style-clause-wrote
returns-then-style-clause-wrote g c =
    let start = (g.W.ByteSink.state c.args.writer.now) in
    let head = reply_head c.args.answer.now c.args.style.keep in
    subst (λ b. Wrote start (g.W.ByteSink.state c.finish.new.writer) (head ++ reply_body c.args.answer.now b)
    c.finish.result) (sym c.if-style.true)
    (c.finish.ensures.wrote start _
    (c.put_reply_head.ensures start [] (gathered_none start c.new-head.result c.new-head.ensures)))

pub returns-clause-wrote : goal.returns-clause-wrote
returns-clause-wrote g c =
    let start = (g.W.ByteSink.state c.args.writer.now) in
    let head = reply_head c.args.answer.now c.args.style.keep in
    let whole =
    append-nil (head ++ (reply_of c.args.answer.now).body)
    ∙ ap (λ b. head ++ reply_body c.args.answer.now b) (sym c.if-style.false) in
    subst (λ t. Wrote start (g.W.ByteSink.state c.finish-2.new.writer) t c.finish-2.result) whole
    (c.finish-2.ensures.wrote start _ (c.put_body.ensures start _
    (c.put_reply_head.ensures start [] (gathered_none start c.new-head.result c.new-head.ensures))))
