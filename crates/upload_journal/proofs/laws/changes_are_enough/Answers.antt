use Rattle.upload_journal.proofs.Restart.{changes_are_enough}
use Rattle.upload_journal.proofs.laws.changes_are_enough.Goals as goal

pub returns : goal.returns
returns c = changes_are_enough
