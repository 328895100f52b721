use Rattle.std.proofs.Common.{refl, sym, ◌∙◌, subst, rules, true≢false, arith}
use Rattle.upload_intake.specs.Desks.{seat_of}
use Rattle.upload_keeper.specs.Seats.{SeatState, IsSameSeat}
use Rattle.upload_intake.specs.Pools.Working.{lending, means}
use Rattle.upload_intake.proofs.Conversations.{same_seat, gated_same, same_seat_twice}
use Rattle.upload_intake.proofs.Working.{Working, Ended, standing, at_first, begins, talked, ends_at_none, ends_gone}
use Rattle.upload_intake.proofs.Working.{at_limit, talk_of, tells_talk, told_on, told_gone, not_gone, gone_is}
use Rattle.upload_intake.proofs.work.serve_seat.Goals as goal
use Rattle.upload_intake.proofs.work.serve_seat.Goals.{in-None, in-Some+in_default}
use Rattle.upload_intake.proofs.work.serve_seat.Goals.{in-Some+in-Some-next_conn+then-is_gone}

pub loop-init : goal.loop-init
loop-init g c = search (rules, arith, same_seat, Working, at_first, begins)

pub loop-preserved : goal.loop-preserved
loop-preserved g c =
    let m =
    means (lending g.C.Conns.gives g.C.Conns.takes_back g.C.In.ByteSource.state g.C.Out.ByteSink.state)
    g.S.Secrets.draws g.G.Gate.watches
    g.O.Observer.told in
    let max = c.args.server.max_body in
    let at = standing m max c.loop.conns c.loop.desk c.loop.observer c.loop.end in
    let next = standing m max c.take_back.new.self c.serve-ended.new.desk c.serve-ended.new.observer c.count.new.self in
    let told =
    at_limit m max c.in-Some-next_conn.source c.serve-ended.new.reader c.in-Some-next_conn.sink
    c.serve-ended.new.writer c.loop.desk c.serve-ended.new.desk c.loop.observer c.serve-ended.new.observer
    c.serve-ended.result c.loop.server.max_body c.loop.invariant.limit c.serve-ended.ensures.told in
    let t =
    talk_of m max c.in-Some-next_conn.source c.serve-ended.new.reader c.in-Some-next_conn.sink
    c.serve-ended.new.writer c.loop.desk c.serve-ended.new.desk c.loop.observer c.serve-ended.new.observer
    c.serve-ended.result told in
    let tells =
    tells_talk m max c.in-Some-next_conn.source c.serve-ended.new.reader c.in-Some-next_conn.sink
    c.serve-ended.new.writer c.loop.desk c.serve-ended.new.desk c.loop.observer c.serve-ended.new.observer
    c.serve-ended.result told in
    let there = not_gone c.serve-ended.result (sym c.is_gone.ensures ∙ c.if-is_gone.false) in
    record {
      seat =
          same_seat_twice _ _ _ c.loop.invariant.seat
          (gated_same g.S.Secrets.draws g.G.Gate.watches _ _ _ _ c.serve-ended.ensures.told.conversation);
      working =
          talked m max c.args.worker c.args.seat at c.loop.invariant.working t next _ tells told.told
          (c.next_conn.new.self, c.in-Some-next_conn.ensures, c.take_back.ensures) refl refl c.count.ensures.conns
          c.count.ensures.clean
          (told_on m max c.in-Some-next_conn.source c.serve-ended.new.reader c.in-Some-next_conn.sink
          c.serve-ended.new.writer c.loop.desk c.serve-ended.new.desk c.loop.observer c.serve-ended.new.observer
          c.serve-ended.result told there)
          there;
      limit = c.serve-ended.ensures.limit ∙ c.loop.invariant.limit;
    }

-- the connection was served, so it may come back
pub take_back-requires : goal.take_back-requires
take_back-requires g c =
    let m =
    means (lending g.C.Conns.gives g.C.Conns.takes_back g.C.In.ByteSource.state g.C.Out.ByteSink.state)
    g.S.Secrets.draws g.G.Gate.watches
    g.O.Observer.told in
    let limit = c.loop.server.max_body in
    c.requires.come_back limit c.loop.conns c.next_conn.new.self
    (talk_of m limit c.in-Some-next_conn.source c.serve-ended.new.reader c.in-Some-next_conn.sink
    c.serve-ended.new.writer c.loop.desk c.serve-ended.new.desk c.loop.observer c.serve-ended.new.observer
    c.serve-ended.result c.serve-ended.ensures.told)
    c.in-Some-next_conn.ensures

pub returns-clause-seat : goal.returns-clause-seat
returns-clause-seat g c =
    let at_the_end : IsSameSeat c.args.seat (seat_of c.match-next.desk.desk) = elim c.match-next.branch [
      | in-None w ↦ absurd (true≢false (sym w.in-None.ensures.steps))
      | in-Some+in_default w ↦ search (rules, c.loop.invariant.seat, w.desk-is)
      | in-Some+in-Some-next_conn+then-is_gone w ↦
          let behind =
          same_seat_twice _ _ _ c.loop.invariant.seat
          (gated_same g.S.Secrets.draws g.G.Gate.watches _ _ _ _ w.serve-ended.ensures.told.conversation) in
          search (rules, behind, w.desk-is)
    ] in
    search (rules, at_the_end, c.finish.ensures, c.into_parts-seat.ensures.seat)

pub returns-clause-worked : goal.returns-clause-worked
returns-clause-worked g c =
    let m =
    means (lending g.C.Conns.gives g.C.Conns.takes_back g.C.In.ByteSource.state g.C.Out.ByteSink.state)
    g.S.Secrets.draws g.G.Gate.watches
    g.O.Observer.told in
    let max = c.args.server.max_body in
    let at = standing m max c.loop.conns c.loop.desk c.loop.observer c.loop.end in
    let last = standing m max c.match-next.conns c.match-next.desk c.match-next.observer c.match-next.end in
    let ended : Ended m max c.args.worker c.args.seat last = elim c.match-next.branch [
      | in-None w ↦ absurd (true≢false (sym w.in-None.ensures.steps))
      | in-Some+in_default w ↦
          subst (Ended m max c.args.worker c.args.seat)
          (λ i. standing m max (sym w.conns-is i) (sym w.desk-is i) (sym w.observer-is i) (sym w.end-is i))
          (ends_at_none m max c.args.worker c.args.seat at c.loop.invariant.working w.next_conn.new.self
          w.in_default.ensures)
      | in-Some+in-Some-next_conn+then-is_gone w ↦
          let next =
          standing m max w.take_back.new.self w.serve-ended.new.desk w.serve-ended.new.observer w.count.new.self in
          let gone = gone_is w.serve-ended.result (sym w.is_gone.ensures ∙ w.if-is_gone.true) in
          let served =
          at_limit m max w.in-Some-next_conn.source w.serve-ended.new.reader w.in-Some-next_conn.sink
          w.serve-ended.new.writer c.loop.desk w.serve-ended.new.desk c.loop.observer w.serve-ended.new.observer
          w.serve-ended.result c.loop.server.max_body c.loop.invariant.limit w.serve-ended.ensures.told in
          let told =
          told_gone m max w.in-Some-next_conn.source w.serve-ended.new.reader w.in-Some-next_conn.sink
          w.serve-ended.new.writer c.loop.desk w.serve-ended.new.desk c.loop.observer w.serve-ended.new.observer
          w.serve-ended.result served gone in
          subst (Ended m max c.args.worker c.args.seat)
          (λ i. standing m max (sym w.conns-is i) (sym w.desk-is i) (sym w.observer-is i) (sym w.end-is i))
          (ends_gone m max c.args.worker c.args.seat at c.loop.invariant.working
          (talk_of m max w.in-Some-next_conn.source w.serve-ended.new.reader w.in-Some-next_conn.sink
          w.serve-ended.new.writer c.loop.desk w.serve-ended.new.desk c.loop.observer w.serve-ended.new.observer
          w.serve-ended.result served)
          next _
          (tells_talk m max w.in-Some-next_conn.source w.serve-ended.new.reader w.in-Some-next_conn.sink
          w.serve-ended.new.writer c.loop.desk w.serve-ended.new.desk c.loop.observer w.serve-ended.new.observer
          w.serve-ended.result served)
          served.told (w.next_conn.new.self, w.in-Some-next_conn.ensures, w.take_back.ensures) refl refl
          w.count.ensures.conns w.count.ensures.clean
          told.0 told.1 told.2 gone)
    ] in
    subst (λ (d : SeatState × g.row.S.Denot). Ended m max c.args.worker c.args.seat (record last { desk = d }))
    (λ i. (sym (c.finish.ensures ∙ c.into_parts-seat.ensures.seat) i, sym c.into_parts-seat.ensures.secrets i)) ended
