use Rattle.std.proofs.Common.{arith, append_assoc, rules}
use Rattle.upload_bytes.proofs.Parts.{concat-take_next}
use Rattle.upload_journal.proofs.draft.put_parts.Goals as goal

pub loop-part-preserved : goal.loop-part-preserved
loop-part-preserved c = search (rules, arith, concat-take_next, append_assoc)
