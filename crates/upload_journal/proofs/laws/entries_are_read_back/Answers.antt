use Rattle.upload_journal.proofs.Texts.{entry_read}
use Rattle.upload_journal.proofs.laws.entries_are_read_back.Goals as goal

pub returns : goal.returns
returns c = entry_read
