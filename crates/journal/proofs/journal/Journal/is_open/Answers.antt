use Rattle.journal.proofs.Commit.{stored_rests}
use Rattle.journal.proofs.journal.Journal.is_open.Goals as goal

pub returns-clause-durable : goal.returns-clause-durable
returns-clause-durable g c opened clean file may =
    cc (stored_rests _ _ _ _ file (c.args.self.now.rests opened clean file may))
