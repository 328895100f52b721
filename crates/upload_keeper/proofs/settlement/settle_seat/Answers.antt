use Rattle.std.proofs.Common.{ap, subst}
use Rattle.crossbeam_channel.specs.Claims.{view}
use Rattle.upload_keeper.specs.Line.{Waits}
use Rattle.upload_keeper.specs.Seats.{SeatState}
use Rattle.upload_keeper.proofs.Settling.{settled_seat}
use Rattle.upload_keeper.proofs.settlement.settle_seat.Goals as goal

pub returns-clause-settled : goal.returns-clause-settled
returns-clause-settled c = λ ledger kept lines keeping done takes taken below line_is.
    let jobs = c.settle_line.ensures.settled in
    let replies = c.settle_line-2.ensures.settled in
    settled_seat ledger kept lines keeping done c.args.end.seat c.args.line below line_is
    c.end.inside.place.seat c.end.inside.place.gone _ _ (ap (λ (s : SeatState). s.seat) c.end.view_is) c.end.invariant
    (view c.args.jobs.now.pass) takes taken
    (jobs.0, subst (λ v. Waits v jobs.0) c.settle_line.ensures.joined jobs.1)
    (replies.0, subst (λ v. Waits v replies.0) c.settle_line-2.ensures.joined replies.1)
    _ _ _ _ c.args.end c.end.view_is
