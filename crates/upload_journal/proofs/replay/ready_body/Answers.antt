use Rattle.std.proofs.Common.{arith, rules}
use Rattle.upload_journal.proofs.Replays.{joins_one}
use Rattle.upload_journal.proofs.replay.ready_body.Goals as goal

pub returns-clause-read : goal.returns-clause-read
returns-clause-read g c = search (rules, arith, joins_one)
