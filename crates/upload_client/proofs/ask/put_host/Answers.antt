use Rattle.std.proofs.Common.{subst, append_assoc}
use Rattle.http_wire.specs.Inner.Gathering.{Gathered}
use Rattle.upload_client.proofs.ask.put_host.Goals as goal

pub returns : goal.returns
returns g c = λ start before held.
    let put = c.put-3.ensures start _ (c.put-2.ensures start _ (c.put.ensures start before held)) in
    subst (Gathered start (g.W.ByteSink.state c.put-3.new.writer) c.put-3.new.self) (simp append_assoc) put
