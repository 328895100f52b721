use Rattle.std.proofs.Common.{◌≡◌, ◌≢◌, ◌∙◌, inl, inr, List, ℕ, is_err, false, sym, ap, subst, arith}
use Rattle.upload_journal.specs.declared.replay.ReplayFault.TheVariants.{NoMemory}
use Rattle.upload_journal.specs.Entries.{entry_of}
use Rattle.upload_journal.specs.Replay.{Applies}
use Rattle.upload_journal.specs.Stops.{Stops}
use Rattle.upload_store.specs.Reading.{StandsIn}
use Rattle.upload_store.specs.Rescuing.{Since, RefusedSince}
use Rattle.upload_store.specs.Rescued.{stand_of, files_at}
use Rattle.upload_store.specs.Salvage.{Stand, ready, one_more, lose_at, made_ready}
use Rattle.upload_store.specs.declared.files.Files.{Files}
use Rattle.upload_store.proofs.Reading.{reads_none}
use Rattle.upload_store.proofs.Rounds.{if_ok}
use Rattle.upload_store.proofs.rescue.RescueMachine.apply.Goals as goal

-- a record that counts
pub returns-in-Ok-clause-step : goal.returns-in-Ok-clause-step
returns-in-Ok-clause-step g c =
    let held = g.S.Shelf.held in
    let it : Stand = stand_of c.args.self.now in
    let none : is_err c.make_ready.result ≡ false = sym c.is_err.ensures.value ∙ c.if-is_err.false in
    let at = if_ok c.make_ready.result _ none c.make_ready.ensures.ready in
    let point_at = ap (λ (s : Stand). s.point) at in
    let place_at = ap (λ (s : Stand). s.place) at in
    let ok = c.in-Ok.ensures.ok in
    let files = files_at c.args.self.now in
    let before : Since held g.S.Shelf.may_leave g.S.Shelf.IsClean g.S.Shelf.faults files.shelf files.shelf =
    (reads_none held g.S.Shelf.may_leave g.S.Shelf.IsClean files.shelf, omega arith) in
    let since = subst (λ (f : Files g.row.S.Denot g.row.S-File.Denot). Since held g.S.Shelf.may_leave g.S.Shelf.IsClean
    g.S.Shelf.faults files.shelf f.shelf → Since held g.S.Shelf.may_leave g.S.Shelf.IsClean g.S.Shelf.faults files.shelf
    c.apply.new.bodies.shelf) c.make_ready.ensures.files (c.in-Ok.ensures.keeps files) before in
    record {
      does =
          inl
          (record {
            entry = ok.0;
            is_entry = ok.1;
            text_is = ok.2;
            applies =
                subst
                (λ p. Applies (StandsIn held g.S.Shelf.IsClean c.apply.new.bodies.shelf) p ok.0 c.apply.new.self)
                point_at ok.3;
            is = λ i. record (at i) {
              point = c.apply.new.self;
              place = (c.saturating_add-self.ensures ∙ ap one_more place_at) i;
            };
          });
      since = since;
    }

-- a record that is lost
pub returns-else-is_err-2-clause-step : goal.returns-else-is_err-2-clause-step
returns-else-is_err-2-clause-step g c =
    let held = g.S.Shelf.held in
    let it : Stand = stand_of c.args.self.now in
    let text : List ℕ = c.args.bytes.now in
    let none : is_err c.make_ready.result ≡ false = sym c.is_err.ensures.value ∙ c.if-is_err.false in
    let at = if_ok c.make_ready.result _ none c.make_ready.ensures.ready in
    let point_at = ap (λ (s : Stand). s.point) at in
    let files = files_at c.args.self.now in
    let begun : Since held g.S.Shelf.may_leave g.S.Shelf.IsClean g.S.Shelf.faults files.shelf files.shelf =
    (reads_none held g.S.Shelf.may_leave g.S.Shelf.IsClean files.shelf, omega arith) in
    let before = subst (λ (f : Files g.row.S.Denot g.row.S-File.Denot). Since held g.S.Shelf.may_leave g.S.Shelf.IsClean
    g.S.Shelf.faults files.shelf f.shelf) (sym c.make_ready.ensures.files) begun in
    let lost_none : is_err c.lose.result ≡ false =
    sym c.is_err-else-is_want_of_memory.ensures.value ∙ c.if-is_err-2.false in
    let lost = if_ok c.lose.result _ lost_none c.lose.ensures.lost in
    let shelf_is = ap (λ (f : Files g.row.S.Denot g.row.S-File.Denot). f.shelf) c.lose.ensures.files in
    let stops = c.in-Err.ensures.cause files before in
    let since = c.in-Err.ensures.keeps files before in
    let some : c.in-Err.fault ≢ NoMemory =
    λ is. absurd (cc (c.is_want_of_memory.ensures.1 is, c.if-is_want_of_memory.false)) in
    let now = made_ready it text in
    let new = c.lose.new.self in
    let same : stand_of new ≡ lose_at now c.args.time text c.in-Err.fault = lost
    ∙ (λ i. lose_at (record (at i) { point = (c.in-Err.ensures.err ∙ point_at) i }) c.args.time text c.in-Err.fault) in
    record {
      does =
          inr
          (record {
            fault = c.in-Err.fault;
            some = some;
            stops =
                subst
                (λ shelf. Stops (StandsIn held g.S.Shelf.IsClean shelf)
                (RefusedSince held g.S.Shelf.may_leave g.S.Shelf.IsClean g.S.Shelf.faults files.shelf shelf)
                (ready it (entry_of text)) (entry_of text) c.in-Err.fault)
                (sym shelf_is)
                (subst
                (λ p. Stops (StandsIn held g.S.Shelf.IsClean c.apply.new.bodies.shelf)
                (RefusedSince held g.S.Shelf.may_leave g.S.Shelf.IsClean g.S.Shelf.faults files.shelf
                c.apply.new.bodies.shelf) p (entry_of text) c.in-Err.fault)
                point_at stops);
            is = same;
          });
      since =
          subst (Since held g.S.Shelf.may_leave g.S.Shelf.IsClean g.S.Shelf.faults files.shelf) (sym shelf_is) since;
    }
