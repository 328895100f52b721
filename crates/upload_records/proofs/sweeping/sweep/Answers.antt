use Rattle.journal.specs.Journal.{kept}
use Rattle.upload_store.specs.Found.{texts_of}
use Rattle.upload_records.proofs.Runs.{noted}
use Rattle.upload_records.proofs.Sweeps.{all_named}
use Rattle.upload_records.proofs.sweeping.sweep.Goals as goal

pub returns-in-Ok-remove_others-clause-named : goal.returns-in-Ok-remove_others-clause-named
returns-in-Ok-remove_others-clause-named g c clean =
    all_named g.S.Shelf.held g.S.Shelf.may_leave c.new-named.result c.look.new.machine
    (texts_of (kept c.args.journal.now))
    (noted c.new-named.result (kept c.args.journal.now) c.look.new.machine (c.in-Ok.ensures.ran clean))
    c.args.shelf.now c.remove_others.new.shelf c.remove_others.ensures.keeps

pub returns-clause-named : goal.returns-clause-named
returns-clause-named g c clean =
    all_named g.S.Shelf.held g.S.Shelf.may_leave c.new-named.result c.look.new.machine
    (texts_of (kept c.args.journal.now))
    (noted c.new-named.result (kept c.args.journal.now) c.look.new.machine (c.in-Ok.ensures.ran clean))
    c.args.shelf.now c.remove_others.new.shelf c.remove_others.ensures.keeps

pub returns-in-Ok-remove_others-clause-ends : goal.returns-in-Ok-remove_others-clause-ends
returns-in-Ok-remove_others-clause-ends g c clean = (c.in-Ok.ensures.ends clean, c.in-Ok.ensures.marked clean)
