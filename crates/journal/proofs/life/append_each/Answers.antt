use Rattle.std.proofs.Common.{◌≡◌, ◌+◌, ◌<◌, ◌++◌, ◌∷◌, [], ℕ, List, Result, Ok, Err, OnOk, is_err}
use Rattle.std.proofs.Common.{false, refl, length, take, sym, ap, ◌∙◌, arith, rules, inl, inr}
use Rattle.std.proofs.Common.{append_assoc}
use Rattle.std.proofs.lemmas.List.{append-nil, take_more, map-append}
use Rattle.std.proofs.lemmas.List.Sums.{sum_by_push}
use Rattle.std.specs.List.{sum_by}
use Rattle.journal.specs.Format.{Kept}
use Rattle.journal.specs.Batch.{batch_records, batch_size, kept_of, kept_at}
use Rattle.journal.specs.Journal.{kept}
use Rattle.journal.specs.declared.batch.Batch.{Batch}
use Rattle.journal.proofs.Commit.{stored_rests}
use Rattle.journal.proofs.life.append_each.Goals as goal

pub loop-i-init : goal.loop-i-init
loop-i-init g c = record {
  is_still_open = c.requires;
  line = refl;
  ends = omega arith;
  faults = omega arith;
  clean = λ clean. clean;
  added = λ clean. sym (append-nil (kept c.args.journal.now));
  durable = λ clean file may. stored_rests _ _ _ _ file (c.args.journal.now.rests c.requires clean file may);
}

-- what an `Ok` tells, and an `Err`
if_ok : {T E : Type 0} (result : Result T E) (P : Type 0) → is_err result ≡ false → OnOk result P → P
if_ok (Ok x) P ok told = told
if_ok (Err e) P ok told = absurd (cc ok)

-- one batch more
module _ (time i : ℕ) (batches : List Batch) (batch : Batch)
    (more : take (i + 1) batches ≡ take i batches ++ batch ∷ [])
  where
    kept_more : (old : List Kept) → (old ++ kept_of time (take i batches)) ++ (time, batch_records batch) ∷ [] ≡ old
        ++ kept_of time (take (i + 1) batches)
    kept_more old =
        append_assoc old (kept_of time (take i batches)) ((time, batch_records batch) ∷ [])
        ∙ ap (λ (l : List Kept). old ++ l)
        (sym (ap (kept_of time) more ∙ map-append (kept_at time) (take i batches) (batch ∷ [])))

    sum_more : sum_by batch_size (take (i + 1) batches) ≡ sum_by batch_size (take i batches) + batch_size batch
    sum_more = ap (sum_by batch_size) more ∙ sum_by_push batch_size (take i batches) batch

pub loop-i-preserved : goal.loop-i-preserved
loop-i-preserved g c =
    let i = c.loop-i.i in
    let batches = c.args.batches.now in
    let time = c.args.time in
    let batch = c.index-batches-i.result in
    let so_far = c.loop-i.invariant in
    let more : take (i + 1) batches ≡ take i batches ++ batch ∷ [] = take_more batches i batch (search rules) ∙ ap
    (λ b. take i batches ++ b ∷ []) (sym c.index-batches-i.is) in
    let ok : is_err c.append.result ≡ false = sym c.is_err.ensures.value ∙ c.if-is_err.false in
    let added = if_ok c.append.result _ ok c.append.ensures.added in
    let durable = if_ok c.append.result _ ok c.append.ensures.durable in
    record {
      is_still_open = if_ok c.append.result _ ok c.append.ensures.open;
      line = c.append.ensures.line ∙ so_far.line;
      ends = omega (
        arith,
        if_ok c.append.result _ ok c.append.ensures.ends,
        so_far.ends,
        sum_more time i batches batch more,
      );
      faults = omega (arith, so_far.faults, c.append.ensures.faults);
      clean = λ clean. so_far.clean (c.append.ensures.clean clean);
      added = λ clean.
          added clean ∙ ap (λ (l : List Kept). l ++ (time, batch_records batch) ∷ [])
          (so_far.added (c.append.ensures.clean clean))
          ∙ kept_more time i batches batch more (kept c.args.journal.now);
      durable = λ clean file may. durable clean file may ∙ sym (added clean);
    }

pub returns-then-is_err-clause-any_crash : goal.returns-then-is_err-clause-any_crash
returns-then-is_err-clause-any_crash g c clean file may =
    let i = c.loop-i.i in
    let batches = c.args.batches.now in
    let batch = c.index-batches-i.result in
    let before = c.loop-i.invariant.added (c.append.ensures.clean clean) in
    let here : i < length batches = search rules in
    let more : take (i + 1) batches ≡ take i batches ++ batch ∷ [] = take_more batches i batch here ∙ ap
    (λ b. take i batches ++ b ∷ []) (sym c.index-batches-i.is) in
    elim (c.append.ensures.any_crash c.loop-i.invariant.is_still_open clean file may) [
      | inl old_is ↦ (i, omega arith, omega arith, omega arith, old_is ∙ before)
      | inr new_is ↦ (
        i + 1,
        omega arith,
        omega arith,
        omega arith,
        new_is ∙ ap (λ (l : List Kept). l ++ (c.args.time, batch_records batch) ∷ []) before
            ∙ kept_more c.args.time i batches batch more (kept c.args.journal.now),
      )
    ]
