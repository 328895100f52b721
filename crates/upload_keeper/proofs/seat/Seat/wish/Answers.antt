use Rattle.std.proofs.Common.{ap}
use Rattle.crossbeam_channel.specs.Ends.{sends_on}
use Rattle.upload_keeper.specs.Passes.{line_of}
use Rattle.upload_keeper.proofs.SeatMoves.{wish_sent, no_job_sent, told_nothing}
use Rattle.upload_keeper.proofs.seat.Seat.wish.Goals as goal

pub invariant_of-self-2 : goal.invariant_of-self-2
invariant_of-self-2 g c = wish_sent _ _ _ _ c.self.invariant _ _ c.in-Ok.ensures.sent

pub returns : goal.returns
returns g c = told_nothing _ _ _ _ _ _ _ _ _ _ _ _ c.self.view_is
    (ap (λ s. line_of (sends_on s)) c.offer.ensures.line)
    (no_job_sent _ _ _ _ c.self.invariant _ _ c.in-Ok.ensures.sent)
    c.offer.ensures.same
