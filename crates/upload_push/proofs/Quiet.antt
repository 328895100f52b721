-- Where no event is another client's request, the premise on other clients holds.
use Rattle.std.proofs.Common.{ℕ, List, [], ◌∷◌, Option, arith, rules}
use Rattle.upload_push.specs.Slices.{Attempt}
use Rattle.upload_push.specs.Promise.{AreOwn, AloneIsQuiet, AvoidAll, events_left, events_after, others_in_front}
use Rattle.upload_push.specs.declared.world.Event.{Event}
use Rattle.upload_push.specs.declared.world.Event.TheVariants.{Delivered, ReplyLost, NotDelivered, Other, Passes}

own_left : (events : List Event) → AreOwn events → AreOwn (events_left events)
own_left [] own = tt
own_left (Other ask ∷ events) own = absurd own
own_left (Passes seconds ∷ events) own = own_left events own
own_left (Delivered ∷ events) own = own
own_left (ReplyLost ∷ events) own = own
own_left (NotDelivered ∷ events) own = own

own_after : (events : List Event) (log : List Attempt) → AreOwn events → AreOwn (events_after events log)
own_after events [] own = own
own_after events (e ∷ log) own = own_left (events_after events log) (own_after events log own)

none_in_front : (place : Option (List ℕ)) (events : List Event) → AreOwn events
    → AvoidAll place (others_in_front events)
none_in_front place [] own = tt
none_in_front place (Other ask ∷ events) own = absurd own
none_in_front place (Passes seconds ∷ events) own = none_in_front place events own
none_in_front place (Delivered ∷ events) own = tt
none_in_front place (ReplyLost ∷ events) own = tt
none_in_front place (NotDelivered ∷ events) own = tt

pub alone_is_quiet : AloneIsQuiet
alone_is_quiet name events [] own = tt
alone_is_quiet name events (e ∷ log) own =
    search (rules, arith, none_in_front, own_after, alone_is_quiet name events log own)
