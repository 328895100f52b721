use Rattle.std.proofs.Common.{inl, inr, sym, subst, arith, rules}
use Rattle.upload_store.specs.Store.{disk_of, shelf_of}
use Rattle.upload_store.specs.declared.losses.Losses.{Losses}
use Rattle.upload_keeping.specs.Begun.{BeginsWithout}
use Rattle.upload_keeping.proofs.Known.{told_ok, told_err}
use Rattle.upload_keeping.proofs.Without.{begins_without}
use Rattle.upload_keeping.proofs.ahead.salvage_ahead.Goals as goal

pub returns-in-Ok-begin_without-clause-salvaged : goal.returns-in-Ok-begin_without-clause-salvaged
returns-in-Ok-begin_without-clause-salvaged g c =
    let told = c.salvage_ahead-store.ensures in
    let known = c.in-Ok.is in
    let saved = c.in-Ok.saved in
    let kept = c.in-Ok-begin_without.salvaged.kept in
    let over = c.in-Ok-begin_without.ensures in
    subst (λ (losses : Losses). BeginsWithout c.args.store kept.keeping kept.service kept.since losses)
    (sym over.losses)
    (begins_without c.args.store c.salvage_ahead-store.result.0 kept.keeping kept.service kept.since saved.replay
    saved.losses
    (record {
      ran = told_ok _ _ _ known told.ran;
      same = told_ok _ _ _ known told.same;
      unnamed = told_ok _ _ _ known told.unnamed;
      reads = told.reads;
    })
    (record {
      none = over.none.0;
      opened = over.opened;
      clean = over.clean;
      shelf = over.shelf;
      next = over.next;
      noted = over.noted;
      all = over.all;
      service_is = over.service.0;
      since_is = over.service.1;
    }))

pub returns-in-Err-clause-cause : goal.returns-in-Err-clause-cause
returns-in-Err-clause-cause g c =
    let why = told_err _ _ _ c.in-Err.is c.salvage_ahead-store.ensures.cause in
    let left = c.salvage_ahead-store.result.0 in
    inl (record { was = why.was; same = why.same; disk = disk_of left; left = shelf_of left; why = why.why })

pub returns-in-Err-begin_without-clause-cause : goal.returns-in-Err-begin_without-clause-cause
returns-in-Err-begin_without-clause-cause g c =
    let told = c.salvage_ahead-store.ensures in
    let known = c.in-Ok.is in
    let why = c.in-Err-begin_without.ensures.cause in
    inr (
      c.salvage_ahead-store.result.0,
      told_ok _ _ _ known told.open,
      told_ok _ _ _ known told.same,
      (c.in-Ok.saved.replay.state.issued, why.0, why.1),
    )

pub begin_without-requires-clause-whole : goal.begin_without-requires-clause-whole
begin_without-requires-clause-whole g c none clean = search (rules, arith, told_ok)
