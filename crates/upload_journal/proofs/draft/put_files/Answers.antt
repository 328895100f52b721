use Rattle.std.proofs.Common.{arith, append_assoc, rules}
use Rattle.upload_journal.proofs.Files.{texts_next}
use Rattle.upload_journal.proofs.draft.put_files.Goals as goal

pub loop-file-preserved : goal.loop-file-preserved
loop-file-preserved c = search (rules, arith, append_assoc, texts_next)
