use Rattle.std.proofs.Common.{ap, ◌∙◌}
use Rattle.http_wire.specs.States.{SinkState}
use Rattle.blobd_shared.specs.Connections.{transcript_of}
use Rattle.blobd_push.proofs.Dialing.{unused}
use Rattle.blobd_push.proofs.dialer.Dialer.dial.Goals as goal

pub returns-in-Err-clause-none : goal.returns-in-Err-clause-none
returns-in-Err-clause-none g c =
    let read =
    ap g.D.In.Inlet.given c.stream_of.ensures ∙ ap transcript_of c.in-Err.ensures.given_back.0
    ∙ ap g.D.In.Inlet.given c.counted-source.ensures.stream ∙ c.in_ok-source.ensures.some.0 in
    let written =
    ap g.D.Out.Outlet.taken c.stream_of-in-Err.ensures
    ∙ ap (λ (s : SinkState). s.taken) c.in-Err.ensures.given_back.1
    ∙ ap g.D.Out.Outlet.taken c.counted-sink.ensures.stream ∙ c.in_ok-source.ensures.some.1 in
    unused c.args.self.now.host.now read written c.in_ok-source.ensures.some.2 c.take_back.ensures
