use Rattle.std.proofs.Common.{ap}
use Rattle.crossbeam_channel.specs.Ends.{sends_on}
use Rattle.upload_keeper.specs.Passes.{line_of}
use Rattle.upload_keeper.proofs.SeatMoves.{ended_by, same_by, told_nothing}
use Rattle.upload_keeper.proofs.seat.Seat.finish.Goals as goal

pub invariant_of-result : goal.invariant_of-result
invariant_of-result g c = ended_by _ _ _ _ c.self.invariant _ _ c.offer.ensures.sent

pub returns : goal.returns
returns g c = told_nothing _ _ _ _ _ _ _ _ _ _ _ _ c.self.view_is
    (ap (λ s. line_of (sends_on s)) c.offer.ensures.line)
    (same_by _ _ _ _ c.self.invariant _ _ c.offer.ensures.sent)
    c.offer.ensures.same
