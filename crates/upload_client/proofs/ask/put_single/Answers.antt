use Rattle.std.proofs.Common.{◌∙◌, refl, subst, append_assoc}
use Rattle.http_wire.specs.Inner.Gathering.{Gathered}
use Rattle.upload_client.proofs.ask.put_single.Goals as goal

pub returns-in-Some : goal.returns-in-Some
returns-in-Some g c = λ start before held.
    let digest = c.as_bytes.ensures ∙ c.text.ensures.text in
    let put = c.put.ensures start _ (c.put_target.ensures start before held) in
    subst (Gathered start (g.W.ByteSink.state c.put.new.writer) c.put.new.self)
    (rw (digest, c.in-Some.is) (simp append_assoc)) put

pub returns-in_default : goal.returns-in_default
returns-in_default g c = λ start before held.
    subst (Gathered start (g.W.ByteSink.state c.put_target.new.writer) c.put_target.new.head)
    (rw c.in_default.is refl) (c.put_target.ensures start before held)
