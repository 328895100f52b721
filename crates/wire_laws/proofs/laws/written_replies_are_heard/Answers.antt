use Rattle.wire_laws.proofs.WrittenReplies.{replies_heard}
use Rattle.wire_laws.proofs.laws.written_replies_are_heard.Goals as goal

pub returns : goal.returns
returns c = replies_heard
