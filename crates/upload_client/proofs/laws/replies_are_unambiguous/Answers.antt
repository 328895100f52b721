use Rattle.upload_client.proofs.UnambiguousReplies.{replies_unambiguous}
use Rattle.upload_client.proofs.laws.replies_are_unambiguous.Goals as goal

pub returns : goal.returns
returns c = replies_unambiguous
