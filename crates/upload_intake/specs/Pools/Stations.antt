-- The workers at their seats, and what their threads promise and leave.
use Rattle.std.specs.Prelude.{◌<◌, ℕ, List, map, length, get_or}
use Rattle.std.specs.declared.thread.PromisedHandle.{PromisedHandle}
use Rattle.upload_intake.specs.declared.work.Leaving.{Leaving}
use Rattle.upload_intake.specs.declared.work.Station.{Station}
use Rattle.upload_intake.specs.declared.work.Work.{Work}
use Rattle.upload_intake.specs.declared.work.Worker.{Worker}
use Rattle.upload_intake.specs.declared.work.WorkerEnd.{WorkerEnd}
use Rattle.upload_keeper.specs.Seats.{SeatState, IsSameSeat}
use Rattle.upload_intake.specs.Pools.Working.{Lending, Means, IsWorked}

module _ {C S G O : Type 0} where
  abbrev pub seats_of : List (Station C S G O) → List SeatState
  seats_of stations = map (λ (s : Station C S G O). s.seat) stations

  abbrev pub workers_of : List (Station C S G O) → List (Worker C S G O)
  workers_of stations = map (λ (s : Station C S G O). s.worker) stations

  abbrev pub limits_of : List (Station C S G O) → List ℕ
  limits_of stations = map (λ (s : Station C S G O). s.server.max_body) stations

  -- the stations of the threads that were started
  abbrev pub promised : List (PromisedHandle (Leaving C S G O) (Work C S G O)) → List (Station C S G O)
  promised handles = map (λ (h : PromisedHandle (Leaving C S G O) (Work C S G O)). h.promise.station.value) handles

-- A worker served over its seat, and left it, what it was lent and its counts so.
pub record Works {L : Lending} {S G O : Type 0} (m : Means L S G O) (station : Station L.Conns S G O)
    (leaving : Leaving L.Conns S G O) : Type 0 where
  pub same : IsSameSeat station.seat leaving.seat
  pub worked : IsWorked m station.server.max_body station.worker station.seat leaving.worker leaving.seat leaving.end

-- what the workers left, in the order of their seats
pub record AllLeft (C S G O : Type 0) : Type 0 where
  pub seats : List SeatState
  pub workers : List (Worker C S G O)
  pub ends : List WorkerEnd

-- so did each worker, in order
abbrev pub EachWorks : {L : Lending} {S G O : Type 0} → Means L S G O → List (Station L.Conns S G O)
    → AllLeft L.Conns S G O → Type 0
EachWorks {L} {S} {G} {O} m stations left =
    (k : ℕ) (station : Station L.Conns S G O) (d : Leaving L.Conns S G O) → k < length stations
    → Works m (get_or stations k station) (record {
      seat = get_or left.seats k d.seat;
      worker = get_or left.workers k d.worker;
      end = get_or left.ends k d.end;
    })
