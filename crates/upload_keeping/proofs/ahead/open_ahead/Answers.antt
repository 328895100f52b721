use Rattle.std.proofs.Common.{◌≡◌, ◌∙◌, sym, subst, refl, IsTrue, arith, rules}
use Rattle.upload_service.specs.Machine.{empty_state}
use Rattle.upload_journal.specs.Replay.{Point}
use Rattle.upload_store.specs.Runs.{IsReplayOf, start_of}
use Rattle.upload_store.specs.Store.{IsClean, IsWhole, disk_of, kept_of, shelf_of, limits_of}
use Rattle.upload_store.specs.declared.store.Store.{Store}
use Rattle.upload_keeping.specs.Books.{moment_of}
use Rattle.upload_keeping.proofs.Going.{whole_at_rest}
use Rattle.upload_keeping.proofs.Known.{told_ok, told_err}
use Rattle.upload_keeping.proofs.ahead.open_ahead.Goals as goal

pub begin-requires-clause-ran : goal.begin-requires-clause-ran
begin-requires-clause-ran g c whole clean = search (rules, arith, told_ok)

pub returns-in-Ok-clause-recovered : goal.returns-in-Ok-clause-recovered
returns-in-Ok-clause-recovered g c =
    let old = c.args.store in
    let told = c.recover_ahead-store.ensures in
    let known = c.in-Ok.is in
    let now = c.recover_ahead-store.result.0 in
    let is = sym c.begin.ensures.store.0 in
    let Over : Type 0 = Store g.row.D.Denot g.row.S.Denot g.row.S-File.Denot g.D.Disk g.S.Shelf g.S.File.Disk in
    let begin = start_of (empty_state (limits_of old) 0) in
    let replay = c.in-Ok.replay in
    let same = told_ok _ _ _ known told.same in
    let ran = told_ok _ _ _ known told.ran in
    record {
      none = c.begin.ensures.none.0;
      opened = c.begin.ensures.store.1 ∙ is;
      is_whole = subst IsTrue (sym c.begin.ensures.whole) refl;
      same = subst (λ (x : Over). IsClean x → kept_of x ≡ kept_of old) is same;
      recovered =
          subst
          (λ (x : Over). IsClean x → (point : Point)
          × IsReplayOf (kept_of old) (g.S.Shelf.held (shelf_of x)) begin point × (point.state ≡ c.begin.result.service)
          × (moment_of point ≡ c.begin.result.since)) is
          (λ clean. (replay, ran clean, sym c.begin.ensures.service, sym c.begin.ensures.since));
      whole = λ rest.
          subst (λ (x : Over). IsWhole x) is (whole_at_rest old now begin replay told.reads same ran rest);
    }

pub returns-in-Err-clause-cause : goal.returns-in-Err-clause-cause
returns-in-Err-clause-cause g c =
    let why = told_err _ _ _ c.in-Err.is c.recover_ahead-store.ensures.cause in
    let left = c.recover_ahead-store.result.0 in
    record { was = why.was; same = why.same; disk = disk_of left; left = shelf_of left; why = why.why }
