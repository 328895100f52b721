use Rattle.std.proofs.Common.{◌≡◌, ◌+◌, ◌<◌, ◌++◌, ◌∷◌, [], ℕ, List, take, length, sym, ap, rules}
use Rattle.std.proofs.Common.{subst}
use Rattle.std.proofs.Common.{◌∙◌, arith, length-take}
use Rattle.std.proofs.lemmas.List.{take_all}
use Rattle.journal.specs.Journal as journals
use Rattle.upload_store.specs.Safe.{IsSafe, AreWritten}
use Rattle.upload_store.specs.Store.{shelf_of, next_of}
use Rattle.upload_store.proofs.Crashes.{written_still, written_append}
use Rattle.upload_store.proofs.Rounds.{one_more}
use Rattle.upload_store.specs.Faults.{BodyFails}
use Rattle.upload_store.proofs.Causes.{fails_behind, fails_among, comes_weaker, why_not_weaker}
use Rattle.std.proofs.lemmas.List.{take-append-drop}
use Rattle.std.proofs.Common.{drop}
use Rattle.upload_store.proofs.store.Store.keep.Goals as goal

pub loop-body-init : goal.loop-body-init
loop-body-init g c = search (rules, arith)

pub loop-body-preserved : goal.loop-body-preserved
loop-body-preserved g c =
    let held = g.S.Shelf.held in
    let may_leave = g.S.Shelf.may_leave in
    let so_far = c.loop-body.invariant in
    let i = c.loop-body.body-index in
    let bodies : List (List ℕ) = c.args.bodies.now in
    let body : List ℕ = c.body-item.result in
    let first = next_of c.args.self.now in
    let shelf = shelf_of c.put_body.new.self in
    let done = c.in_default.ensures.written in
    let here : i < length bodies = omega (arith, c.loop-body-test.true, c.loop-body.auto.body-index-end) in
    let long : length (take i bodies) ≡ i = omega (arith, length-take i bodies, here) in
    let number_is : c.in_default.field-0.number ≡ first + length (take i bodies) =
    omega (arith, done.0, so_far.next, long) in
    record {
      journal = c.put_body.ensures.journal ∙ so_far.journal;
      next = omega (arith, c.in_default.ensures.next, so_far.next);
      limits = c.put_body.ensures.limits ∙ so_far.limits;
      clean = λ clean. so_far.clean (c.put_body.ensures.clean clean);
      safe = λ n bytes clean safe.
          c.put_body.ensures.safe n bytes clean.shelf (so_far.safe n bytes (c.put_body.ensures.clean clean) safe);
      written = λ clean.
          let front = written_still held may_leave (shelf_of c.loop-body.self) shelf
          (λ n bytes safe. c.put_body.ensures.safe n bytes clean.shelf safe) first (take i bodies)
          (so_far.written (c.put_body.ensures.clean clean)) in
          let behind : AreWritten held may_leave shelf (first + length (take i bodies)) (body ∷ []) =
          (subst (λ n. IsSafe held may_leave shelf n body) number_is done.2, tt) in
          subst (AreWritten held may_leave shelf first) (sym (one_more bodies i body here c.body-item.is))
          (written_append held may_leave shelf first (take i bodies) (body ∷ []) front behind);
      behind = λ n low.
          (c.put_body.ensures.others.each n (λ same. absurd (omega (arith, low, same, so_far.next)))).same
          ∙ so_far.behind n (omega (arith, low));
      usable = λ none. absurd (cc (sym none ∙ c.in_default.ensures.usable));
      faults = omega (arith, so_far.faults, c.put_body.ensures.faults);
    }

pub returns-in-Err-clause-any_crash : goal.returns-in-Err-clause-any_crash
returns-in-Err-clause-any_crash g c opened clean file may = search (rules, arith)

pub returns-in-Ok-clause-written : goal.returns-in-Ok-clause-written
returns-in-Ok-clause-written g c clean = search (rules, arith, take_all)

pub returns-in-Err-append-clause-any_crash : goal.returns-in-Err-append-clause-any_crash
returns-in-Err-append-clause-any_crash g c opened clean file may = search (rules, arith, take_all)

pub returns-in-Ok-clause-any_crash : goal.returns-in-Ok-clause-any_crash
returns-in-Ok-clause-any_crash g c opened clean file may = search (rules, arith, take_all)

pub returns-in-Err-clause-safe : goal.returns-in-Err-clause-safe
returns-in-Err-clause-safe g c n bytes clean safe =
    c.put_body.ensures.safe n bytes clean.shelf
    (c.loop-body.invariant.safe n bytes (c.put_body.ensures.clean clean) safe)

pub returns-in-Err-append-clause-safe : goal.returns-in-Err-append-clause-safe
returns-in-Err-append-clause-safe g c n bytes clean safe = grind arith

pub returns-in-Ok-clause-safe : goal.returns-in-Ok-clause-safe
returns-in-Ok-clause-safe g c n bytes clean safe =
    subst (λ shelf. IsSafe g.S.Shelf.held g.S.Shelf.may_leave shelf n bytes) (sym c.append.ensures.shelf)
    (c.loop-body.invariant.safe n bytes (c.append.ensures.clean clean) safe)

pub returns-in-Err-clause-cause : goal.returns-in-Err-clause-cause
returns-in-Err-clause-cause g c =
    let so_far = c.loop-body.invariant in
    let i = c.loop-body.body-index in
    let bodies : List (List ℕ) = c.args.bodies.now in
    let body : List ℕ = c.body-item.result in
    let first = next_of c.args.self.now in
    let here : i < length bodies = omega (arith, c.loop-body-test.true, c.loop-body.auto.body-index-end) in
    let long : length (take i bodies) ≡ i = omega (arith, length-take i bodies, here) in
    let next : next_of c.loop-body.self ≡ first + length (take i bodies) = omega (arith, so_far.next, long) in
    comes_weaker _ _ _ _ _ _ _ _
    (why_not_weaker _ _ _ _ _ _ _ _ (λ closed. ap journals.is_open (sym so_far.journal) ∙ closed)
    (λ never. absurd (cc never)) (λ never. absurd (cc never))
    (λ same. c.put_body.ensures.journal ∙ so_far.journal))
    (λ fault why.
    let at : BodyFails g.S.Shelf g.S.File.Disk (shelf_of c.loop-body.self) (shelf_of c.put_body.new.self)
    (first + length (take i bodies)) (body ∷ []) fault = subst (λ n. BodyFails g.S.Shelf g.S.File.Disk
    (shelf_of c.loop-body.self) (shelf_of c.put_body.new.self) n (body ∷ []) fault) next why in
    let behind = fails_behind g.S.Shelf g.S.File.Disk (shelf_of c.args.self.now) (shelf_of c.loop-body.self)
    (shelf_of c.put_body.new.self) first (take i bodies) (body ∷ [])
    (λ clean n low. so_far.behind n (omega (arith, low, long))) so_far.usable so_far.faults fault at in
    let among = fails_among g.S.Shelf g.S.File.Disk (shelf_of c.args.self.now) (shelf_of c.put_body.new.self) first
    (take i bodies ++ body ∷ []) (drop (i + 1) bodies) fault behind in
    let rest = drop (i + 1) bodies in
    let front = sym (one_more bodies i body here c.body-item.is) in
    let whole : (take i bodies ++ body ∷ []) ++ rest ≡ bodies = ap (λ (l : List (List ℕ)). l ++ rest) front
    ∙ take-append-drop (i + 1) bodies in
    subst (λ all. BodyFails g.S.Shelf g.S.File.Disk (shelf_of c.args.self.now) (shelf_of c.put_body.new.self) first all
    fault) whole among)
    (λ it why. why) (λ full. omega (arith, full, so_far.next, here)) c.in-Err.fault
    c.in-Err.ensures.cause
