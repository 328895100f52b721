-- The keeper's ends of the reply lines.
use Rattle.std.specs.Prelude.{◌≡◌, false, [], None}
use Rattle.crossbeam_channel.specs.Claims.{view}
use Rattle.crossbeam_channel.specs.Ends.{sends_on}
use Rattle.upload_service.specs.declared.answer.Answer.{Answer}
use Rattle.upload_keeper.specs.declared.reply.ReplyLine.{ReplyLine}
use Rattle.upload_keeper.specs.Passes.{LineId, line_of, sender_view}

abbrev pub replies_on : ReplyLine → LineId Answer
replies_on line = line_of (sends_on line.replies.sender)

-- nothing was sent yet, and its seat has not finished
abbrev pub BeginsReplies : ReplyLine → Type 0
BeginsReplies line = (view line.replies.pass ≡ sender_view 0 []) × (line.is_done ≡ false)
    × (line.held ≡ None) × (line.is_crowded ≡ false)
