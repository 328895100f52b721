use Rattle.std.proofs.Common.{◌∙◌, IsTrue, ap, subst}
use Rattle.journal.specs.Journal.{disk_of, kept}
use Rattle.journal.specs.declared.journal.Journal.{Journal}
use Rattle.upload_store.specs.Store.{kept_of, limits_of, shelf_of}
use Rattle.upload_compact.proofs.Opening.{led, opened_reads}
use Rattle.upload_compact.proofs.renewal.open_old.Goals as goal

pub returns-in-Ok-recover-clause-leads : goal.returns-in-Ok-recover-clause-leads
returns-in-Ok-recover-clause-leads g c clean =
    let store = c.new-store.result in
    let disk =
    subst (λ (j : Journal g.row.D.Denot g.D.Disk). IsTrue (g.D.Disk.is_clean (disk_of j))) c.new-store.ensures.journal
    (c.recover.ensures.clean clean).disk in (
      c.in-Ok-recover.replay,
      led g.S.Shelf.held g.S.Shelf.may_leave g.S.Shelf.IsClean c.args.limits (limits_of store) (kept c.args.journal)
          (kept_of store) c.args.shelf (shelf_of c.recover.new.self) c.in-Ok-recover.replay c.new-store.ensures.limits
          (ap (λ (j : Journal g.row.D.Denot g.D.Disk). kept j) c.new-store.ensures.journal ∙ c.in-Ok.ensures.same disk)
          (opened_reads g.S.Shelf.held g.S.Shelf.may_leave g.S.Shelf.IsClean c.args.shelf c.told-shelf.result
          (shelf_of store) (shelf_of c.recover.new.self) c.told-shelf.ensures c.new-store.ensures.shelf
          c.recover.ensures.reads)
          (c.in-Ok-recover.ensures.ran clean),
      c.awake_of-service.ensures.service,
      c.awake_of-service.ensures.moment,
    )

pub returns-in-Ok-recover-clause-reads : goal.returns-in-Ok-recover-clause-reads
returns-in-Ok-recover-clause-reads g c =
    opened_reads g.S.Shelf.held g.S.Shelf.may_leave g.S.Shelf.IsClean c.args.shelf c.told-shelf.result
    (shelf_of c.new-store.result) (shelf_of c.recover.new.self) c.told-shelf.ensures c.new-store.ensures.shelf
    c.recover.ensures.reads

pub returns-in-Ok-recover-clause-survey : goal.returns-in-Ok-recover-clause-survey
returns-in-Ok-recover-clause-survey g c clean =
    c.in-Ok.ensures.survey
    (subst (λ (j : Journal g.row.D.Denot g.D.Disk). IsTrue (g.D.Disk.is_clean (disk_of j)))
    c.new-store.ensures.journal (c.recover.ensures.clean clean).disk)
