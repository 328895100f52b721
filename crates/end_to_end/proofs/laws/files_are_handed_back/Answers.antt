use Rattle.upload_intake.specs.Pools.Working.{lending, means}
use Rattle.end_to_end.proofs.Handing.{files_handed_back}
use Rattle.end_to_end.proofs.laws.files_are_handed_back.Goals as goal

pub returns : goal.returns
returns g c =
    files_handed_back
    (means (lending g.C.Conns.gives g.C.Conns.takes_back g.C.In.ByteSource.state g.C.Out.ByteSink.state)
    g.S.Secrets.draws g.G.Gate.watches g.O.Observer.told) g.M.Moments.tells
    (record {
      headline = c.headline_holds.ensures;
      others = c.others_leave_a_session.ensures;
      reads = λ name at is. c.written_places_are_read.ensures name at is.sixteen is.bytes;
    })
