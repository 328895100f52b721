use Rattle.std.proofs.lemmas.Grind.{common_steps}
use Rattle.std.proofs.Common.{◌≡◌, ◌<◌, ℕ, ◌++◌, ap, ◌∙◌, sym, subst, length, get_or, arith}
use Rattle.std.proofs.lemmas.List.{map-append}
use Rattle.std.specs.Vec.Iter.{into_iter_items}
use Rattle.upload_intake.specs.Pools.Stations.{seats_of, workers_of, limits_of}
use Rattle.upload_keeper.proofs.Opening.{all_done, each_push, step_on}
use Rattle.upload_intake.proofs.pool.stations.Goals as goal

pub loop-worker-preserved : goal.loop-worker-preserved
loop-worker-preserved g c =
    let was = c.loop-worker.invariant in
    let pushed = c.in_ok-push.ensures.items in
    let old = c.loop-worker.stations.items in
    let seats = into_iter_items c.next-in-loop-worker.new.self in
    let workers = into_iter_items c.next.new.self in
    let one = c.in-Some-next.ensures.cases.0 in
    let other = c.in-Some.ensures.steps.0 in
    record {
      seats = ap (λ l. seats_of l ++ seats) pushed ∙ ap (λ l. l ++ seats) (map-append _ old _)
          ∙ step_on (seats_of old) (into_iter_items c.loop-worker.seats) seats
          (into_iter_items c.into_iter-seats.result) c.in-Some-next.seat was.seats one;
      workers = ap (λ l. workers_of l ++ workers) pushed ∙ ap (λ l. l ++ workers) (map-append _ old _)
          ∙ step_on (workers_of old) (into_iter_items c.loop-worker.worker-iterator) workers
          (into_iter_items c.into_iter-worker-iterator.result) c.in-Some.worker was.workers other;
      servers =
          subst (λ l. (k : ℕ) (d : ℕ) → k < length l → get_or l k d ≡ c.args.limits.max_body)
          (sym (ap limits_of pushed ∙ map-append _ old _))
          (each_push (λ _ n. n ≡ c.args.limits.max_body) (limits_of old) c.in_ok-server.server.max_body was.servers
          c.in_ok-server.ensures);
      len = (let n = was.len in let p = ap length one in let q = ap length other in omega arith);
    }

pub returns-clause-seats : goal.returns-clause-seats
returns-clause-seats g c = grind (arith, common_steps, all_done)

pub returns-clause-workers : goal.returns-clause-workers
returns-clause-workers g c = grind (arith, common_steps, all_done)
