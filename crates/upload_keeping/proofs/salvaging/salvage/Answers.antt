use Rattle.std.proofs.Common.{inl, inr, sym, subst}
use Rattle.upload_store.specs.Store.{disk_of, shelf_of}
use Rattle.upload_store.specs.declared.losses.Losses.{Losses}
use Rattle.upload_keeping.specs.Begun.{BeginsWithout}
use Rattle.upload_keeping.proofs.Without.{begins_without}
use Rattle.upload_keeping.proofs.salvaging.salvage.Goals as goal

pub returns-in-Err-clause-cause : goal.returns-in-Err-clause-cause
returns-in-Err-clause-cause g c =
    inl (disk_of c.salvage.new.self, shelf_of c.salvage.new.self, c.in-Err.ensures.cause)

pub returns-in-Ok-begin_without-clause-salvaged : goal.returns-in-Ok-begin_without-clause-salvaged
returns-in-Ok-begin_without-clause-salvaged g c =
    let kept = c.in-Ok-begin_without.salvaged.kept in
    let saved = c.in-Ok.saved in
    let over = c.in-Ok-begin_without.ensures in
    subst (λ (losses : Losses). BeginsWithout c.args.store kept.keeping kept.service kept.since losses)
    (sym over.losses)
    (begins_without c.args.store c.salvage.new.self kept.keeping kept.service kept.since saved.replay saved.losses
    (record {
      ran = c.in-Ok.ensures.ran;
      same = c.in-Ok.ensures.same;
      unnamed = c.in-Ok.ensures.unnamed;
      reads = c.salvage.ensures.reads;
    })
    (record {
      none = over.none.0;
      opened = over.opened;
      clean = over.clean;
      shelf = over.shelf;
      next = over.next;
      noted = over.noted;
      all = over.all;
      service_is = over.service.0;
      since_is = over.service.1;
    }))

pub returns-in-Err-begin_without-clause-cause : goal.returns-in-Err-begin_without-clause-cause
returns-in-Err-begin_without-clause-cause g c =
    let why = c.in-Err-begin_without.ensures.cause in
    inr
    (c.salvage.new.self, c.in-Ok.ensures.open, c.in-Ok.ensures.same, (c.in-Ok.saved.replay.state.issued, why.0, why.1))
