use Rattle.std.proofs.Common.{◌∙◌, ap, Some, arith, rules}
use Rattle.upload_push.specs.declared.world.Event.{Event}
use Rattle.upload_push.proofs.Events.{nothing_left, first_left, all_left, other_in_front, nothing_in_front}
use Rattle.upload_push.proofs.world.LossyWorld.next_fate.Goals as goal

pub loop-event-preserved-in-Other : goal.loop-event-preserved-in-Other
loop-event-preserved-in-Other c = λ ask heard new later.
    c.loop-event.invariant ask heard new
    (other_in_front _ _ _ _ _ _ _ (first_left _ _ _ _ c.next.ensures.items
    (c.in-Some.is ∙ ap (λ (e : Event). Some e) c.in-Other.is)) c.serve.ensures ask heard new later)

pub returns : goal.returns
returns c = search (rules, arith, nothing_left, nothing_in_front, all_left)
