use Rattle.journal.proofs.Commit.{stored_rests}
use Rattle.journal.proofs.journal.Journal.reserve.Goals as goal

pub returns-then-bytes-room-clause-any_crash : goal.returns-then-bytes-room-clause-any_crash
returns-then-bytes-room-clause-any_crash g c opened clean file may =
    cc (stored_rests _ _ _ _ file (c.args.self.now.rests opened clean file may))

pub returns-then-bytes-clause-any_crash : goal.returns-then-bytes-clause-any_crash
returns-then-bytes-clause-any_crash g c opened clean file may =
    cc (stored_rests _ _ _ _ file (c.args.self.now.rests opened clean file may))
