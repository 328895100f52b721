use Rattle.std.proofs.Common.{arith, rules}
use Rattle.upload_journal.proofs.Replays.{joins_still, joins_next}
use Rattle.upload_journal.proofs.Failing.{of_one}
use Rattle.upload_journal.proofs.replay.read_files.Goals as goal

pub loop-file-preserved : goal.loop-file-preserved
loop-file-preserved g c = search (rules, arith, joins_still, joins_next)

pub returns-in-Err-clause-cause : goal.returns-in-Err-clause-cause
returns-in-Err-clause-cause g c first kept = search (rules, arith, of_one)
