use Rattle.std.proofs.Common.{◌≡◌, ◌<◌, ℕ, ◌++◌, [], ◌∷◌, ap, ◌∙◌, sym, subst, length, get_or}
use Rattle.std.proofs.lemmas.List.{map-append}
use Rattle.std.specs.Vec.Iter.{into_iter_items}
use Rattle.upload_keeper.proofs.Opening.{each_push, step_on}
use Rattle.blobd_serve.specs.Doors.{doors_of, lefts_of}
use Rattle.blobd_serve.proofs.workers.make_workers.Goals as goal

pub loop-door-preserved : goal.loop-door-preserved
loop-door-preserved g c =
    let was = c.loop-door.invariant in
    let pushed = c.in-Ok.ensures.items in
    let old = c.loop-door.workers.items in
    let rest = into_iter_items c.next.new.self in
    let made = c.in_ok-worker.ensures in
    record {
      doors = ap (λ l. doors_of l ++ rest) pushed ∙ ap (λ l. l ++ rest) (map-append _ old _)
          ∙ ap (λ d. (doors_of old ++ d ∷ []) ++ rest) made.0
          ∙ step_on (doors_of old) (into_iter_items c.loop-door.door-iterator) rest
          (into_iter_items c.into_iter-door-iterator.result) c.in-Some.door was.doors c.in-Some.ensures.steps.0;
      left =
          subst (λ l. (k : ℕ) (d : ℕ) → k < length l → get_or l k d ≡ c.args.terms.count)
          (sym (ap lefts_of pushed ∙ map-append _ old _))
          (each_push (λ _ n. n ≡ c.args.terms.count) (lefts_of old) c.in_ok-worker.worker.conns.left was.left made.1);
    }
