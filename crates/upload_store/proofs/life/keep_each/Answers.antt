use Rattle.std.proofs.Common.{◌≡◌, ◌+◌, ◌<◌, ◌++◌, ◌∷◌, [], inl, inr, ℕ, List, take, length, sym, ap}
use Rattle.std.proofs.Common.{subst, ◌∙◌, arith, rules, is_err, false, append_assoc, length-append}
use Rattle.std.proofs.lemmas.List.{append-nil}
use Rattle.journal.specs.Format.{Kept}
use Rattle.journal.specs.Batch.{kept_at}
use Rattle.upload_store.specs.declared.life.Round.{Round}
use Rattle.upload_store.specs.Rounds.{rounds_kept, bodies_of}
use Rattle.upload_store.specs.Safe.{AreWritten}
use Rattle.upload_store.specs.Store.{shelf_of, kept_of, next_of}
use Rattle.upload_store.proofs.Crashes.{written_still, written_append}
use Rattle.upload_store.proofs.Rounds.{if_ok, if_err_told, kept_more, bodies_more, size_more, round_fails}
use Rattle.upload_store.proofs.Causes.{fails_behind}
use Rattle.upload_store.specs.Faults.{BodyFails}
use Rattle.std.proofs.Common.{true}
use Rattle.upload_store.proofs.life.keep_each.Goals as goal

pub loop-i-init : goal.loop-i-init
loop-i-init g c = search (rules, arith, append-nil)

pub loop-i-preserved : goal.loop-i-preserved
loop-i-preserved g c =
    let held = g.S.Shelf.held in
    let may_leave = g.S.Shelf.may_leave in
    let so_far = c.loop-i.invariant in
    let i = c.loop-i.i in
    let rounds : List Round = c.args.rounds.now in
    let time = c.args.time in
    let round = c.index-rounds-i.result in
    let old = kept_of c.args.store.now in
    let first = next_of c.args.store.now in
    let shelf = shelf_of c.keep.new.self in
    let front = bodies_of (take i rounds) in
    let here : i < length rounds = search rules in
    let ok : is_err c.keep.result ≡ false = sym c.is_err.ensures.value ∙ c.if-is_err.false in
    let kept = if_ok c.keep.result _ ok c.keep.ensures.kept in
    let next = if_ok c.keep.result _ ok c.keep.ensures.next in
    let written = if_ok c.keep.result _ ok c.keep.ensures.written in
    let durable = if_ok c.keep.result _ ok c.keep.ensures.durable in
    let all = kept_more rounds i round here c.index-rounds-i.is time in
    let bodies = bodies_more rounds i round here c.index-rounds-i.is in
    let items = c.deref.ensures.value in
    record {
      is_still_open = if_ok c.keep.result _ ok c.keep.ensures.open;
      limits = c.keep.ensures.limits ∙ so_far.limits;
      clean = λ clean. so_far.clean (c.keep.ensures.clean clean);
      safe = λ n bytes clean safe.
          c.keep.ensures.safe n bytes clean (so_far.safe n bytes (c.keep.ensures.clean clean) safe);
      next =
          omega (
            arith,
            next,
            so_far.next,
            ap length bodies,
            ap length items,
            length-append front round.bodies.items,
          );
      kept = λ clean.
          kept clean
          ∙ ap (λ (l : List Kept). l ++ kept_at time round.batch ∷ []) (so_far.kept (c.keep.ensures.clean clean))
          ∙ append_assoc old (rounds_kept time (take i rounds)) (kept_at time round.batch ∷ [])
          ∙ ap (λ (l : List Kept). old ++ l) (sym all);
      written = λ clean.
          subst (AreWritten held may_leave shelf first) (sym bodies)
          (written_append held may_leave shelf first front round.bodies.items
          (written_still held may_leave (shelf_of c.loop-i.store) shelf
          (λ n bytes safe. c.keep.ensures.safe n bytes clean safe) first front
          (so_far.written (c.keep.ensures.clean clean)))
          (subst (λ n. AreWritten held may_leave shelf n round.bodies.items) so_far.next
          (subst (AreWritten held may_leave shelf (next_of c.loop-i.store)) items (written clean))));
      durable = λ clean file may. durable clean file may ∙ sym (kept clean);
      ends =
          omega (
            arith,
            if_ok c.keep.result _ ok c.keep.ensures.ends,
            so_far.ends,
            size_more rounds i round here c.index-rounds-i.is,
          );
      behind = λ n low.
          c.keep.ensures.behind n
          (omega (
            arith,
            low,
            so_far.next,
            ap length bodies,
            ap length items,
            length-append front round.bodies.items,
          ))
          ∙ so_far.behind n
          (omega (arith, low, ap length bodies, length-append front round.bodies.items));
      usable = λ none. so_far.usable (if_ok c.keep.result _ ok c.keep.ensures.usable none);
      disk_faults = let more = c.keep.ensures.faults.0 in omega (arith, so_far.disk_faults, more);
      shelf_faults = let more = c.keep.ensures.faults.1 in omega (arith, so_far.shelf_faults, more);
    }

pub returns-then-is_err-clause-any_crash : goal.returns-then-is_err-clause-any_crash
returns-then-is_err-clause-any_crash g c opened clean file may =
    let held = g.S.Shelf.held in
    let may_leave = g.S.Shelf.may_leave in
    let so_far = c.loop-i.invariant in
    let i = c.loop-i.i in
    let rounds : List Round = c.args.rounds.now in
    let time = c.args.time in
    let round = c.index-rounds-i.result in
    let old = kept_of c.args.store.now in
    let first = next_of c.args.store.now in
    let shelf = shelf_of c.keep.new.self in
    let front = bodies_of (take i rounds) in
    let here : i < length rounds = search rules in
    let was_clean = c.keep.ensures.clean clean in
    let all = kept_more rounds i round here c.index-rounds-i.is time in
    let bodies = bodies_more rounds i round here c.index-rounds-i.is in
    let items = c.deref.ensures.value in
    let written = written_still held may_leave (shelf_of c.loop-i.store) shelf
    (λ n bytes safe. c.keep.ensures.safe n bytes clean safe) first front (so_far.written was_clean) in
    elim (c.keep.ensures.any_crash so_far.is_still_open clean file may) [
      | inl before ↦ (i, omega arith, omega arith, omega arith, before ∙ so_far.kept was_clean, written)
      | inr after ↦ (
        i + 1,
        omega arith,
        omega arith,
        omega arith,
        after.0 ∙ ap (λ (l : List Kept). l ++ kept_at time round.batch ∷ []) (so_far.kept was_clean)
            ∙ append_assoc old (rounds_kept time (take i rounds)) (kept_at time round.batch ∷ [])
            ∙ ap (λ (l : List Kept). old ++ l) (sym all),
        subst (AreWritten held may_leave shelf first) (sym bodies)
            (written_append held may_leave shelf first front round.bodies.items written
            (subst (λ n. AreWritten held may_leave shelf n round.bodies.items) so_far.next
            (subst (AreWritten held may_leave shelf (next_of c.loop-i.store)) items after.1))),
      )
    ]

pub returns-then-is_err-clause-safe : goal.returns-then-is_err-clause-safe
returns-then-is_err-clause-safe g c n bytes clean safe =
    c.keep.ensures.safe n bytes clean (c.loop-i.invariant.safe n bytes (c.keep.ensures.clean clean) safe)

pub returns-then-is_err-clause-cause : goal.returns-then-is_err-clause-cause
returns-then-is_err-clause-cause g c fewer =
    let so_far = c.loop-i.invariant in
    let i = c.loop-i.i in
    let rounds : List Round = c.args.rounds.now in
    let round = c.index-rounds-i.result in
    let old = c.args.store.now in
    let mid = c.loop-i.store in
    let new = c.keep.new.self in
    let front = bodies_of (take i rounds) in
    let here : i < length rounds = search rules in
    let bodies = bodies_more rounds i round here c.index-rounds-i.is in
    let items = c.deref.ensures.value in
    let bad : is_err c.keep.result ≡ true = sym c.is_err.ensures.value ∙ c.if-is_err.true in
    let told = if_err_told c.keep.result _ bad c.keep.ensures.cause in
    round_fails _ _ _ _ _ _ _ (λ closed. inl (absurd (cc (sym closed ∙ so_far.is_still_open))))
    (λ long.
    inr (inl (omega (arith, long, so_far.ends, size_more rounds i round here c.index-rounds-i.is))))
    (λ more. inr (inr (inl (omega (arith, more, so_far.disk_faults)))))
    (λ full.
    inr (inr (inr (inl (omega (
      arith,
      full,
      so_far.next,
      ap length bodies,
      ap length items,
      length-append front round.bodies.items,
    ))))))
    (λ fault why.
    let at : BodyFails g.S.Shelf g.S.File.Disk (shelf_of mid) (shelf_of new) (next_of old + length front)
    round.bodies.items fault = subst (λ n. BodyFails g.S.Shelf g.S.File.Disk (shelf_of mid) (shelf_of new) n
    round.bodies.items fault) so_far.next (subst (λ (l : List (List ℕ)). BodyFails g.S.Shelf g.S.File.Disk
    (shelf_of mid) (shelf_of new) (next_of mid) l fault) items why) in
    let all = fails_behind g.S.Shelf g.S.File.Disk (shelf_of old) (shelf_of mid) (shelf_of new) (next_of old) front
    round.bodies.items (λ clean n low. so_far.behind n low) so_far.usable so_far.shelf_faults fault at in
    inr (inr (inr (inr (
      fault,
      subst (λ (l : List (List ℕ)). BodyFails g.S.Shelf g.S.File.Disk (shelf_of old)
          (shelf_of new) (next_of old) l fault) (sym bodies) all,
    )))))
    told.0 told.1
