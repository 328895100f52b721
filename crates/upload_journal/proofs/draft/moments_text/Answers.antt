use Rattle.std.proofs.Common.{arith, rules}
use Rattle.upload_journal.proofs.Checksums.{eight}
use Rattle.upload_journal.proofs.draft.moments_text.Goals as goal

pub returns : goal.returns
returns c = search (rules, arith, eight)
