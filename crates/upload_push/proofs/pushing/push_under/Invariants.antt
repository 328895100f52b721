use Rattle.upload_push.specs.Slices.{push_under}
use Rattle.upload_push.proofs.AsksLeft.{asks_left}
use Rattle.upload_push.proofs.Underway.{IsUnderway}
use Rattle.upload_push.proofs.pushing.push_under.Given as goal

abbrev pub invariant-asks : goal.invariant-asks
invariant-asks g l =
    IsUnderway g.T.Transport.asked (push_under l.fn.digest l.name l.file l.chunk l.tries) l.fn.transport
    l.transport l.pusher

abbrev pub decreases-asks : goal.decreases-asks
decreases-asks g l = asks_left l.pusher.plan l.pusher.stand
