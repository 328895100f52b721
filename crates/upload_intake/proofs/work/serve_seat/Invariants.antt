use Rattle.std.proofs.Common.{◌≡◌}
use Rattle.upload_keeper.specs.Seats.{IsSameSeat}
use Rattle.upload_intake.specs.Desks.{seat_of}
use Rattle.upload_intake.specs.Pools.Working.{lending, means}
use Rattle.upload_intake.proofs.Working.{Working, standing}
use Rattle.upload_intake.proofs.work.serve_seat.Given as goal

abbrev pub invariant-loop : goal.invariant-loop
invariant-loop g l =
    let m =
    means (lending g.C.Conns.gives g.C.Conns.takes_back g.C.In.ByteSource.state g.C.Out.ByteSink.state)
    g.S.Secrets.draws g.G.Gate.watches
    g.O.Observer.told in
    record {
      seat : IsSameSeat l.fn.seat (seat_of l.desk.desk);
      working : Working m l.fn.server.max_body l.fn.worker l.fn.seat
          (standing m l.fn.server.max_body l.conns l.desk l.observer l.end);
      limit : l.server.max_body ≡ l.fn.server.max_body;
    }
