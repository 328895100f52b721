-- What a served pool comes to, from the ends of its threads.
use Rattle.std.proofs.Common.{◌≡◌, ℕ, zero, suc, ◌<◌, List, [], ◌∷◌, ◌++◌, arith, length, get_or, sym, ap, rules}
use Rattle.std.proofs.Common.{◌∙◌, subst}
use Rattle.std.specs.Prelude.{All}
use Rattle.std.specs.List.{AllByRecursion}
use Rattle.upload_intake.specs.declared.work.Leaving.{Leaving}
use Rattle.upload_service.specs.Machine.{State}
use Rattle.upload_intake.specs.declared.work.Station.{Station}
use Rattle.upload_intake.specs.declared.work.WorkerEnd.{WorkerEnd}
use Rattle.upload_keeper.specs.Log.{Step, exchanges_of, last_moment}
use Rattle.upload_keeper.specs.Seats.{SeatState, IsFresh, IsSameSeat}
use Rattle.upload_keeper.specs.Served.{KeeperState, IsSameKeeper, IsServed, IsSeatOf, AreOfOneCall}
use Rattle.upload_keeper.specs.Settled.{IsSettled, IsSettledSeat}
use Rattle.upload_intake.specs.Pools.Stations.{seats_of, workers_of, limits_of, Works, AllLeft, EachWorks}
use Rattle.upload_keeper.specs.Told.{Told, Grows}
use Rattle.upload_intake.specs.Pools.Working.{Lending, Means, Lent, IsWorked, all_answered, all_unanswered}
use Rattle.upload_intake.specs.Pools.ServedPool.{HasPart, IsServedSince}
use Rattle.upload_intake.specs.Pools.KeptPool.{IsKeptPool}
use Rattle.upload_keeper.specs.Safety.{KeptSince, changed}
use Rattle.upload_service.specs.Run.{Exchange}
use Rattle.upload_intake.proofs.Working.{adds_all}
use Rattle.upload_intake.proofs.Carrying.{carries}
use Rattle.std.proofs.lemmas.List.{length-map}
use Rattle.upload_keeper.proofs.Opening.{get_or-map}

module _ {L : Lending} {S G O M : Type 0} (m : Means L S G O) (tells : M → ℕ → M → Type 0) where
  part : (max_body : ℕ) (seat : ℕ) (steps : List Step) (st : Station L.Conns S G O) (l : Leaving L.Conns S G O)
      → IsFresh st.seat → st.server.max_body ≡ max_body → Works m st l → IsSettledSeat seat steps l.seat
      → HasPart m max_body seat steps (record { lent = st.worker; back = l.worker; end = l.end })
  part max_body seat steps st l fresh limit works settled =
      let w = subst (λ n. IsWorked m n st.worker st.seat l.worker l.seat l.end) limit works.worked in
      record {
        old = st.seat;
        new = l.seat;
        fresh = fresh;
        worked = w;
        carried =
            carries seat steps st.seat l.seat (all_answered m max_body w.talks) (all_unanswered m max_body w.talks)
            fresh
            (adds_all m max_body st.worker.conns l.worker.conns (st.seat, st.worker.secrets) w.talks
            (l.seat, l.worker.secrets) w.served)
            settled.sent settled.heard;
        sent = settled.sent;
      }

  seat_of_one_call : (keeper behind : KeeperState) (k : ℕ) (st : Station L.Conns S G O) (new : SeatState)
      → IsSameKeeper keeper behind → IsSeatOf keeper k st.seat → IsSameSeat st.seat new → IsSeatOf behind k new
  seat_of_one_call keeper behind k st new same one seat = search (rules, arith)

  -- some worker that left its seat so
  abbrev some_left : Station L.Conns S G O → SeatState → Leaving L.Conns S G O
  some_left st seat = record { seat = seat; worker = st.worker; end = record { conns = 0; clean = 0 } }

  seated : (keeper behind : KeeperState) (stations : List (Station L.Conns S G O)) (left : AllLeft L.Conns S G O)
      → AreOfOneCall keeper (seats_of stations)
      → IsSameKeeper keeper behind → EachWorks m stations left → (k : ℕ) (d : SeatState) → k < length stations
      → IsSeatOf behind k (get_or left.seats k d)
  seated keeper behind [] left one same works k d below = absurd (omega arith)
  seated keeper behind (s ∷ ss) left one same works k d below =
      let all : List (Station L.Conns S G O) = s ∷ ss in
      let inside : k < length (seats_of all) =
      (let n = length-map all (λ (x : Station L.Conns S G O). x.seat) in omega arith) in
      let mine : IsSeatOf keeper k (get_or all k s).seat =
      subst (IsSeatOf keeper k) (get_or-map (λ (x : Station L.Conns S G O). x.seat) all k s s.seat below)
      (one.each k s.seat inside) in
      seat_of_one_call keeper behind k (get_or all k s) (get_or left.seats k d) same mine
      (works k s (some_left s d) below).same

  -- the ends are of one call with the keeper that ran, as the seats were
  pub still_of_one_call : (keeper behind : KeeperState) (stations : List (Station L.Conns S G O))
      (left : AllLeft L.Conns S G O) → AreOfOneCall keeper (seats_of stations) → IsSameKeeper keeper behind
      → length left.seats ≡ length stations → EachWorks m stations left → AreOfOneCall behind left.seats
  still_of_one_call keeper behind stations left one same len works = search (rules, arith, length-map, seated)

  parts : (max_body : ℕ) (steps : List Step) (stations : List (Station L.Conns S G O)) (left : AllLeft L.Conns S G O)
      → All IsFresh (seats_of stations) → All (λ n. n ≡ max_body) (limits_of stations)
      → length left.seats ≡ length stations → EachWorks m stations left
      → ((k : ℕ) (d : SeatState) → k < length left.seats → IsSettledSeat k steps (get_or left.seats k d))
      → (k : ℕ) (worker : Lent L S G O) (end : WorkerEnd) → k < length stations
      → HasPart m max_body k steps (record {
        lent = get_or (workers_of stations) k worker;
        back = get_or left.workers k worker;
        end = get_or left.ends k end;
      })
  parts max_body steps [] left fresh limits len works settled k worker end below = absurd (omega arith)
  parts max_body steps (s ∷ ss) left fresh limits len works settled k worker end below =
      let all : List (Station L.Conns S G O) = s ∷ ss in
      let st = get_or all k s in
      let its_seat : get_or (seats_of all) k s.seat ≡ st.seat =
      get_or-map (λ (x : Station L.Conns S G O). x.seat) all k s s.seat below in
      let its_limit : get_or (limits_of all) k s.server.max_body ≡ st.server.max_body =
      get_or-map (λ (x : Station L.Conns S G O). x.server.max_body) all k s s.server.max_body below in
      let d : Leaving L.Conns S G O = record { seat = s.seat; worker = worker; end = end } in
      let l : Leaving L.Conns S G O = record {
        seat = get_or left.seats k s.seat;
        worker = get_or left.workers k worker;
        end = get_or left.ends k end;
      } in
      let one : HasPart m max_body k steps (record { lent = st.worker; back = l.worker; end = l.end }) =
      part max_body k steps st l
      (subst IsFresh its_seat
      (fresh k s.seat (let n = length-map all (λ (x : Station L.Conns S G O). x.seat) in omega arith)))
      (sym its_limit
      ∙ limits k s.server.max_body
      (let n = length-map all (λ (x : Station L.Conns S G O). x.server.max_body) in omega arith))
      (works k s d below)
      (settled k s.seat (omega arith)) in
      subst (λ (w : Lent L S G O). HasPart m max_body k steps (record { lent = w; back = l.worker; end = l.end }))
      (sym (get_or-map (λ (x : Station L.Conns S G O). x.worker) all k s worker below)) one

  pub served_pool : (keeper behind : KeeperState) (stations : List (Station L.Conns S G O))
      (left : AllLeft L.Conns S G O) (before after : M) (service : State) (log_length : ℕ) → keeper.log ≡ []
      → All IsFresh (seats_of stations) → All (λ n. n ≡ keeper.start.limits.max_body) (limits_of stations)
      → length left.seats ≡ length stations → length left.workers ≡ length stations
      → length left.ends ≡ length stations → EachWorks m stations left
      → IsSameKeeper keeper behind → Grows tells keeper before behind after
      → IsSettled behind left.seats service log_length
      → IsServedSince m tells keeper.since (record {
        service = keeper.start;
        moments = before;
        workers = workers_of stations;
      }) (record { service = service; moments = after; workers = left.workers; ends = left.ends })
  served_pool keeper behind stations left before after service log_length none fresh limits len back count works
      same grown settled =
      let all : grown.more ≡ behind.log = ap (λ (x : List Step). x ++ grown.more) (sym none) ∙ sym grown.log in
      let p = length-map stations (λ (s : Station L.Conns S G O). s.worker) in
      record {
        steps = behind.log;
        seated = subst (λ l. AllByRecursion (λ (s : Step). s.seat < l) behind.log) (len ∙ sym p) settled.seated;
        all_back = back ∙ sym p;
        counted = count ∙ sym p;
        parts =
            λ k worker end below. parts keeper.start.limits.max_body behind.log stations left fresh limits len
            works settled.each k worker end (omega arith);
        served = subst (λ s. IsServed s (exchanges_of behind.log) service) same.start settled.served;
        typed = settled.typed;
        told =
            subst (λ (x : List Step). Told tells keeper.since before (exchanges_of x) after) all (subst
            (λ (x : List Step).
            Told tells (last_moment keeper.since (exchanges_of x)) before (exchanges_of grown.more) after) none
            grown.told);
      }

  pub kept_pool : (keeper behind : KeeperState) (stations : List (Station L.Conns S G O))
      (left : AllLeft L.Conns S G O) (before after : M) (was is : List Exchange)
      (service : State) (log_length : ℕ) → keeper.log ≡ []
      → All IsFresh (seats_of stations) → All (λ n. n ≡ keeper.start.limits.max_body) (limits_of stations)
      → length left.seats ≡ length stations → length left.workers ≡ length stations
      → length left.ends ≡ length stations → EachWorks m stations left
      → IsSameKeeper keeper behind → Grows tells keeper before behind after
      → IsSettled behind left.seats service log_length → KeptSince keeper was behind is
      → IsKeptPool m tells keeper.since (record {
        service = keeper.start;
        moments = before;
        workers = workers_of stations;
      }) (record { service = service; moments = after; workers = left.workers; ends = left.ends }) was is
  unfolding served_pool
  kept_pool keeper behind stations left before after was is service log_length none fresh limits len back count works
      same grown settled kept = record {
        served =
            served_pool keeper behind stations left before after service log_length none fresh limits len back count
            works same grown settled;
        kept =
            kept.kept
            ∙ ap (λ (l : List Step). was ++ changed (exchanges_of l))
            (ap (λ (l : List Step). l ++ kept.more) (sym none) ∙ sym kept.log);
      }

-- one worker more
module _ {L : Lending} {S G O : Type 0} (m : Means L S G O) where
  more_works : (stations : List (Station L.Conns S G O)) (seats : List SeatState) (workers : List (Lent L S G O))
      (ends : List WorkerEnd) (st : Station L.Conns S G O) (l : Leaving L.Conns S G O)
      → length seats ≡ length stations → length workers ≡ length stations → length ends ≡ length stations
      → EachWorks m stations (record { seats = seats; workers = workers; ends = ends }) → Works m st l
      → EachWorks m (stations ++ st ∷ [])
      (record { seats = seats ++ l.seat ∷ []; workers = workers ++ l.worker ∷ []; ends = ends ++ l.end ∷ [] })
  more_works [] [] [] [] st l p q r h w zero a d below = w
  more_works [] [] [] [] st l p q r h w (suc k) a d below = absurd (omega arith)
  more_works [] [] [] (e ∷ es) st l p q r h w k a d below = absurd (omega (arith, r))
  more_works [] [] (x ∷ xs) ends st l p q r h w k a d below = absurd (omega (arith, q))
  more_works [] (x ∷ xs) workers ends st l p q r h w k a d below = absurd (omega (arith, p))
  more_works (s ∷ ss) [] workers ends st l p q r h w k a d below = absurd (omega (arith, p))
  more_works (s ∷ ss) (x ∷ xs) [] ends st l p q r h w k a d below = absurd (omega (arith, q))
  more_works (s ∷ ss) (x ∷ xs) (y ∷ ys) [] st l p q r h w k a d below = absurd (omega (arith, r))
  more_works (s ∷ ss) (x ∷ xs) (y ∷ ys) (e ∷ es) st l p q r h w zero a d below = h 0 a d (omega arith)
  more_works (s ∷ ss) (x ∷ xs) (y ∷ ys) (e ∷ es) st l p q r h w (suc k) a d below =
      more_works ss xs ys es st l (omega (arith, p)) (omega (arith, q)) (omega (arith, r))
      (λ j a' d' b. h (suc j) a' d' (omega (arith, b))) w k a d (omega (arith, below))

  pub works_more : (stations : List (Station L.Conns S G O)) (left : AllLeft L.Conns S G O)
      (st : Station L.Conns S G O) (l : Leaving L.Conns S G O)
      → length left.seats ≡ length stations → length left.workers ≡ length stations
      → length left.ends ≡ length stations → EachWorks m stations left → Works m st l
      → EachWorks m (stations ++ st ∷ []) (record {
        seats = left.seats ++ l.seat ∷ [];
        workers = left.workers ++ l.worker ∷ [];
        ends = left.ends ++ l.end ∷ [];
      })
  works_more stations left st l p q r h w =
      omega (arith, more_works stations left.seats left.workers left.ends st l p q r h w)
