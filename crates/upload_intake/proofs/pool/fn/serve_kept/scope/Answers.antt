use Rattle.std.proofs.Common.{◌≡◌, ap, ◌∙◌, sym, subst, length, arith, rules}
use Rattle.std.proofs.lemmas.List.{length-map}
use Rattle.std.specs.Vec.Iter.{into_iter_items}
use denote.Exit as exit
use denote.Param.Send.{sendable, param_send, arg_send, shr_send}
use Rattle.upload_intake.specs.Pools.Stations.{promised, AllLeft, EachWorks}
use Rattle.upload_intake.specs.Pools.Working.{lending, means}
use Rattle.upload_keeper.proofs.Opening.{all_done}
use Rattle.upload_keeper.proofs.Safely.{follows_at_first}
use Rattle.upload_intake.proofs.Pooling.{still_of_one_call, kept_pool}
use Rattle.upload_intake.proofs.Sent.{station_sent, leaving_sent, run_sent}
use Rattle.upload_intake.proofs.pool.fn.serve_kept.scope.Goals as goal

-- what a thread's closure captures may cross to it
pub spawn_scoped_with-requires-clause-runs : goal.spawn_scoped_with-requires-clause-runs
spawn_scoped_with-requires-clause-runs g c κs within =
    let s = c.requires.cross in (
      c.requires.come_back,
      (
        search (sendable, s) depth 20,
        search (sendable, s) depth 20,
        search (sendable, s) depth 20,
        search (sendable, s) depth 20,
        search (sendable, s) depth 20,
        search (sendable, s) depth 20,
        search (sendable, s) depth 20,
      ),
    )

pub spawn_scoped_with-requires-send-F : goal.spawn_scoped_with-requires-send-F
spawn_scoped_with-requires-send-F g c κs within =
    let s = c.requires.cross in
    param_send 2 _ (arg_send _ exit.no _
    (run_sent _ _ _ (shr_send _ _ _ s.6) (station_sent _ _ _ _ s.0 s.1 s.2 s.3)))

pub spawn_scoped_with-requires-send-T : goal.spawn_scoped_with-requires-send-T
spawn_scoped_with-requires-send-T g c κs within =
    let s = c.requires.cross in
    param_send 3 _ (arg_send _ exit.no _ (leaving_sent _ _ _ _ s.0 s.1 s.2 s.3))

pub settle_all-service-requires : goal.settle_all-service-requires
settle_all-service-requires g c =
    let m =
    means (lending g.C.Conns.gives g.C.Conns.takes_back g.C.In.ByteSource.state g.C.Out.ByteSink.state)
    g.S.Secrets.draws g.G.Gate.watches
    g.O.Observer.told in
    let stations = c.captures.stations.items in
    let started = c.loop-station.started.items in
    let rest = into_iter_items c.loop-station.station-iterator in
    let all : promised started ≡ stations =
    all_done (promised started) rest (into_iter_items c.into_iter-station-iterator.result)
    c.loop-station.invariant.order (sym c.loop-station.station-iterator.rest.ok.0 ∙ c.in-None.ensures.steps.0)
    ∙ c.into_iter-station-iterator.ensures.into_iter_gives.0 in
    let count : length started ≡ length stations = sym (length-map started _) ∙ ap length all in
    let seats = c.join_all-ends.result.seats in
    let workers = c.join_all-ends.result.workers in
    let ends = c.join_all-ends.result.ends in
    let left : AllLeft _ _ _ _ = record { seats = seats.items; workers = workers.items; ends = ends.items } in
    still_of_one_call m g.M.Moments.tells c.captures.keeper c.in-Ok-run_kept.served stations left
    c.requires.of_one_call c.in-Ok-run_kept.ensures.same
    (sym seats.ok.0 ∙ c.join_all-ends.ensures.seats ∙ c.loop-station.started.ok.0 ∙ count)
    (subst (λ l. EachWorks m l left) all c.join_all-ends.ensures.each)

pub returns : goal.returns
returns g c =
    let m =
    means (lending g.C.Conns.gives g.C.Conns.takes_back g.C.In.ByteSource.state g.C.Out.ByteSink.state)
    g.S.Secrets.draws g.G.Gate.watches
    g.O.Observer.told in
    let stations = c.captures.stations.items in
    let started = c.loop-station.started.items in
    let rest = into_iter_items c.loop-station.station-iterator in
    let all : promised started ≡ stations =
    all_done (promised started) rest (into_iter_items c.into_iter-station-iterator.result)
    c.loop-station.invariant.order (sym c.loop-station.station-iterator.rest.ok.0 ∙ c.in-None.ensures.steps.0)
    ∙ c.into_iter-station-iterator.ensures.into_iter_gives.0 in
    let count : length started ≡ length stations = sym (length-map started _) ∙ ap length all in
    let seats = c.join_all-ends.result.seats in
    let workers = c.join_all-ends.result.workers in
    let ends = c.join_all-ends.result.ends in
    let left : AllLeft _ _ _ _ = record { seats = seats.items; workers = workers.items; ends = ends.items } in
    record {
      served =
          kept_pool m g.M.Moments.tells c.captures.keeper c.in-Ok-run_kept.served stations left
          c.captures.moments c.run_kept.new.moments
          (g.K.Keeping.kept c.captures.keeping) (g.K.Keeping.kept c.run_kept.new.keeping)
          c.settle_all-service.result.service c.settle_all-service.result.log_length c.requires.fresh c.requires.seats
          c.requires.servers
          (sym seats.ok.0 ∙ c.join_all-ends.ensures.seats ∙ c.loop-station.started.ok.0 ∙ count)
          (sym workers.ok.0 ∙ c.join_all-ends.ensures.workers ∙ c.loop-station.started.ok.0 ∙ count)
          (sym ends.ok.0 ∙ c.join_all-ends.ensures.ends ∙ c.loop-station.started.ok.0 ∙ count)
          (subst (λ l. EachWorks m l left) all c.join_all-ends.ensures.each)
          c.in-Ok-run_kept.ensures.same c.in-Ok-run_kept.ensures.grows c.settle_all-service.ensures.settled
          c.in-Ok-run_kept.ensures.since;
      lawful = c.settle_all-service.ensures.lawful;
      not_kept = λ e. absurd cc;
    }

pub run_kept-requires : goal.run_kept-requires
run_kept-requires g c = search (rules, arith, follows_at_first)
