use Rattle.journal.specs.Journal.{kept}
use Rattle.upload_compact.proofs.Naming.{allowed}
use Rattle.upload_compact.proofs.guard.guarded.Goals as goal

pub returns-clause-named : goal.returns-clause-named
returns-clause-named g c clean =
    allowed _ (kept c.args.journal.now) c.recover.new.machine (c.in_default.ensures.ran clean)
