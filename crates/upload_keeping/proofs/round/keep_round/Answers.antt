use Rattle.std.proofs.Common.{inl}
use Rattle.journal.specs.Batch.{batch_records}
use Rattle.upload_store.specs.Safe.{IsSafe}
use Rattle.upload_store.specs.Store.{IsClean, shelf_of}
use Rattle.upload_keeping.proofs.Holding.{promise_more}
use Rattle.upload_keeping.proofs.Crashes.{kept_left, tried_left, settled_on, goes_on, all_safe}
use Rattle.upload_keeping.proofs.round.keep_round.Goals as goal

-- nothing was done
pub returns-in_default-clause-tried : goal.returns-in_default-clause-tried
returns-in_default-clause-tried g c opened since kept waiting goes settled awaits clean whole file files may =
    inl
    (kept_left opened c.args.store.now since kept c.args.moments.upto file files goes settled clean
    (c.is_open.ensures.durable settled.stays_open clean (settled.whole whole) file files may) may)

pub returns-in-Err-clause-tried : goal.returns-in-Err-clause-tried
returns-in-Err-clause-tried g c opened since kept waiting goes settled awaits clean whole file files may =
    let old = c.args.store.now in
    let upto = c.args.moments.upto in
    let texts = batch_records c.promise.new.batch in
    let more =
    promise_more (IsSafe g.S.Shelf.held g.S.Shelf.may_leave (shelf_of old)) (IsClean old) upto c.in-Ok.next waiting
    (batch_records c.args.batch.now) texts c.in-Ok.ensures.promises awaits in
    tried_left opened old c.append.new.self since kept waiting upto more.more c.args.time texts goes settled more.holds
    c.append.ensures.clean c.append.ensures.shelf file files clean may
    (c.append.ensures.any_crash settled.stays_open clean (settled.whole whole)
    (all_safe opened old c.append.new.self since kept waiting upto more.more c.args.time texts goes settled more.holds
    c.append.ensures.clean c.append.ensures.shelf (c.append.ensures.clean clean))
    file files may)

pub returns-in-Ok-append-clause-kept : goal.returns-in-Ok-append-clause-kept
returns-in-Ok-append-clause-kept g c opened since kept waiting goes settled awaits =
    let old = c.args.store.now in
    let upto = c.args.moments.upto in
    let texts = batch_records c.promise.new.batch in
    let more =
    promise_more (IsSafe g.S.Shelf.held g.S.Shelf.may_leave (shelf_of old)) (IsClean old) upto c.in-Ok.next waiting
    (batch_records c.args.batch.now) texts c.in-Ok.ensures.promises awaits in (
      settled_on opened old c.append.new.self since kept waiting upto more.more c.args.time texts goes settled
          more.holds
          c.append.ensures.clean c.append.ensures.shelf c.in-Ok.next more.reaches c.in-Ok-append.ensures.open
          (c.append.ensures.whole settled.stays_open) c.in-Ok-append.ensures.added,
      goes_on opened old c.append.new.self since kept waiting upto more.more c.args.time texts goes settled more.holds
          c.append.ensures.clean c.append.ensures.shelf,
    )
