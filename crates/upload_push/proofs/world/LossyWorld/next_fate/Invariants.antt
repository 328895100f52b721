use Rattle.std.specs.Prelude.{Option}
use Rattle.std.specs.Vec.Iter.{into_iter_len, into_iter_items}
use Rattle.upload_service.specs.declared.ask.Ask.{Ask}
use Rattle.upload_client.specs.declared.heard.Heard.{Heard}
use Rattle.upload_push.specs.World.{World, Asked, world_of}
use Rattle.upload_push.proofs.world.LossyWorld.next_fate.Given as goal

abbrev pub invariant-loop-event : goal.invariant-loop-event
invariant-loop-event l =
    (ask : Ask) (heard : Option Heard) (new : World)
    → Asked (world_of l.self-inside.service l.self-inside.secret l.self-inside.now
    (into_iter_items l.self-inside.events)) ask heard new → Asked l.fn.self ask heard new

abbrev pub decreases-loop-event : goal.decreases-loop-event
decreases-loop-event l = into_iter_len l.self-inside.events
