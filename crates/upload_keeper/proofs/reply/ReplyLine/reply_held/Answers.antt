use Rattle.std.proofs.Common.{sym, ap, ◌∙◌}
use Rattle.std.specs.Prelude.{Some}
use Rattle.upload_keeper.proofs.KeeperMoves.{replied_by}
use Rattle.upload_keeper.proofs.reply.ReplyLine.reply_held.Goals as goal

pub returns-then-is_open-clause-sent : goal.returns-then-is_open-clause-sent
returns-then-is_open-clause-sent g c =
    replied_by c.of.result _ _ _ _ _ _ _ c.send.result (sym c.is_open.ensures ∙ c.if-is_open.true) c.if-self.false
    (sym c.take.ensures.value ∙ c.in-Some.is ∙ ap Some (sym c.of.ensures)) c.take.ensures.after c.send.ensures.sent
    c.send.ensures.closing
