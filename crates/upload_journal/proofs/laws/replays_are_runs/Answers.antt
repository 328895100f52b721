use Rattle.upload_journal.proofs.Replays.{is_run, lawful_used}
use Rattle.upload_journal.proofs.laws.replays_are_runs.Goals as goal

pub returns-clause-runs : goal.returns-clause-runs
returns-clause-runs g c = is_run (g.B.Bodies.stands c.args.bodies.now)

pub returns-clause-used_up : goal.returns-clause-used_up
returns-clause-used_up g c = lawful_used
