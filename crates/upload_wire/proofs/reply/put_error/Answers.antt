use Rattle.std.proofs.Common.{ap, length, subst}
use Rattle.upload_wire.proofs.ReplyLemmas.{error_text}
use Rattle.http_wire.specs.Inner.Gathering.{Gathered}
use Rattle.upload_wire.proofs.reply.put_error.Goals as goal

pub returns : goal.returns
returns g c = λ start before held.
    subst (Gathered start (g.W.ByteSink.state c.put_length.new.writer) c.put_length.new.self)
    (error_text before (ap length c.body.ensures))
    (c.put_length.ensures start _ (c.put_field.ensures start before held))
