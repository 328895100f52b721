use Rattle.std.proofs.Common.{refl}
use Rattle.upload_push.proofs.world.LossyWorldTransport.ask.Goals as goal

pub returns-in-ReplyLost : goal.returns-in-ReplyLost
returns-in-ReplyLost c = c.next_fate.ensures _ _ _
    (rw (c.in-ReplyLost.is, ← c.self.view_is) (c.serve.ensures.0, c.serve.new.service, c.serve.ensures.1, refl, refl))

pub returns-in-Delivered : goal.returns-in-Delivered
returns-in-Delivered c = c.next_fate.ensures _ _ _
    (rw (c.in-Delivered.is, ← c.self.view_is)
    (c.reply.ensures.0, c.reply.new.service, c.reply.ensures.1, c.reply.ensures.2, refl))
