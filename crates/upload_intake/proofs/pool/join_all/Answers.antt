use Rattle.std.proofs.Common.{◌≡◌, List, [], ◌∷◌, ◌++◌, ◌+◌, ap, ◌∙◌, sym, subst, length, length-append, arith}
use Rattle.std.proofs.lemmas.List.{map-append, length-map}
use Rattle.std.specs.Vec.Iter.{into_iter_items}
use Rattle.upload_intake.specs.declared.work.Station.{Station}
use Rattle.upload_intake.specs.Pools.Stations.{promised, AllLeft, EachWorks}
use Rattle.upload_intake.specs.Pools.Working.{lending, means}
use Rattle.upload_keeper.proofs.Opening.{all_done, step_on}
use Rattle.upload_intake.proofs.Pooling.{works_more}
use Rattle.upload_intake.proofs.pool.join_all.Goals as goal

pub loop-worker-preserved : goal.loop-worker-preserved
loop-worker-preserved g c =
    let m =
    means (lending g.C.Conns.gives g.C.Conns.takes_back g.C.In.ByteSource.state g.C.Out.ByteSink.state)
    g.S.Secrets.draws g.G.Gate.watches
    g.O.Observer.told in
    let was = c.loop-worker.invariant in
    let step = c.in-Some.ensures.steps in
    let before = c.loop-worker.yielded in
    let one = c.in-Some.worker.promise.station.value in
    let seats = c.loop-worker.ends.seats in
    let workers = c.loop-worker.ends.workers in
    let ends = c.loop-worker.ends.ends in
    let grown : promised (before ++ c.in-Some.worker ∷ []) ≡ promised before ++ one ∷ [] =
    map-append _ before (c.in-Some.worker ∷ []) in
    let n : length (promised before) ≡ length before = length-map before _ in
    let p : length seats.items ≡ length (promised before) = sym seats.ok.0 ∙ sym was.joined ∙ sym n in
    let q : length workers.items ≡ length (promised before) = sym workers.ok.0 ∙ was.workers ∙ sym was.joined ∙ sym n in
    let r : length ends.items ≡ length (promised before) = sym ends.ok.0 ∙ was.ends ∙ sym was.joined ∙ sym n in
    let pushed = c.push_reserved.ensures in
    let kept = c.push_reserved-in-loop-worker.ensures in
    let counted = c.push_reserved-in-loop-worker-2.ensures in
    record {
      order = ap (λ l. l ++ promised (into_iter_items c.next.new.self)) grown
          ∙ step_on (promised before)
          (promised (into_iter_items c.loop-worker.worker-iterator)) (promised (into_iter_items c.next.new.self))
          (promised (into_iter_items c.into_iter-worker-iterator.result)) one was.order (ap promised step.0);
      joined = length-append before (c.in-Some.worker ∷ []) ∙ ap (λ k. k + 1) was.joined ∙ sym pushed.len;
      seats = omega (arith, was.seats, step.1, pushed.len);
      workers = kept.len ∙ ap (λ k. k + 1) was.workers ∙ sym pushed.len;
      ends = counted.len ∙ ap (λ k. k + 1) was.ends ∙ sym pushed.len;
      seat_room = omega (arith, was.seat_room, step.1, pushed.len, pushed.capacity);
      worker_room = omega (arith, was.worker_room, step.1, kept.len, kept.capacity);
      end_room = omega (arith, was.end_room, step.1, counted.len, counted.capacity);
      each =
          subst (λ (x : List (Station _ _ _ _) × AllLeft _ _ _ _). EachWorks m x.0 x.1)
          (λ i. (
            sym grown i,
            record { seats = sym pushed.items i; workers = sym kept.items i; ends = sym counted.items i },
          ))
          (works_more m (promised before) (record { seats = seats.items; workers = workers.items; ends = ends.items })
          one c.join-seat.result p q r was.each c.join-seat.ensures);
    }

pub returns-clause-each : goal.returns-clause-each
returns-clause-each g c =
    let m =
    means (lending g.C.Conns.gives g.C.Conns.takes_back g.C.In.ByteSource.state g.C.Out.ByteSink.state)
    g.S.Secrets.draws g.G.Gate.watches
    g.O.Observer.told in
    let was = c.loop-worker.invariant in
    let rest = into_iter_items c.loop-worker.worker-iterator in
    let none : length (promised rest) ≡ 0 =
    length-map rest _ ∙ sym c.loop-worker.worker-iterator.rest.ok.0 ∙ c.in-None.ensures.steps.0 in
    let all =
    all_done (promised c.loop-worker.yielded) (promised rest)
    (promised (into_iter_items c.into_iter-worker-iterator.result)) was.order none
    ∙ ap promised c.into_iter-worker-iterator.ensures.into_iter_gives.0 in
    subst (λ l. EachWorks m l (record {
      seats = c.loop-worker.ends.seats.items;
      workers = c.loop-worker.ends.workers.items;
      ends = c.loop-worker.ends.ends.items;
    })) all was.each
