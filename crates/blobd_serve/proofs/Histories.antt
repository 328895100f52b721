-- What the doors of workers tell of the connections that were served over them.
use Rattle.std.proofs.Common.{◌≡◌, ℕ, ◌+◌, ◌≤◌, ◌<◌, List, [], ◌∷◌, ◌++◌, length, sym, ap, ◌∙◌, subst, ⊎_elim, arith}
use Rattle.std.proofs.Common.{append-nil, append_assoc, get_or, map, min}
use Rattle.std.specs.Prelude.{All, Some, None}
use Rattle.std.specs.List.{flat_map}
use Rattle.std.proofs.lemmas.List.{get_or-map, length-map}
use Rattle.upload_service.specs.Machine.{State}
use Rattle.upload_intake.specs.declared.work.WorkerEnd.{WorkerEnd}
use Rattle.upload_intake.specs.Pools.ServedPool.{Given, Left, IsServedSince}
use Rattle.upload_keeper.specs.Settled.{count_limit}
use Rattle.upload_intake.specs.Pools.Working.{IsLast, Lending, Lent, Means, Serves, Talk}
use Rattle.upload_keeper.specs.Seats.{SeatState}
use Rattle.upload_intake.proofs.Transcripts.{connections_told}
use Rattle.upload_intake.proofs.Working.{behind}
use Rattle.upload_wire.specs.declared.connection.ConnEnd.TheVariants.{DeskGone}
use Rattle.blobd_shared.specs.Connections.{ConnEvent, transcript_of}
use Rattle.blobd_shared.specs.Connections.ConnEvent.{made, given_back}
use Rattle.blobd_serve.specs.Serving.{IsServedAt, IsAtDoors, events_of}

-- a worker's connections come over a door with this history, so many at most
pub record AreOver (L : Lending) (history : L.Conns → List ConnEvent) (left_of : L.Conns → ℕ) : Type 0 where
  pub none : (old new : L.Conns) → L.gives old None new → history new ≡ history old
  pub fewer : (old new : L.Conns) (r : L.In) (w : L.Out) → L.gives old (Some (r, w)) new → left_of new + 1 ≡ left_of old
  pub unused : (old new : L.Conns) (r : L.In) (w : L.Out) → L.gives old (Some (r, w)) new
      → ((L.reads r).given ≡ []) × ((L.writes w).taken ≡ [])
  pub one : (old new : L.Conns) (r : L.In) (w : L.Out) → L.gives old (Some (r, w)) new
      → history new ≡ history old ++ made ∷ []
  pub same : (old new : L.Conns) (r : L.In) (w : L.Out) → L.takes_back old (r, w) new → left_of new ≡ left_of old
  pub back : (old new : L.Conns) (r : L.In) (w : L.Out) → L.takes_back old (r, w) new
      → history new ≡ history old ++ given_back (transcript_of (L.reads r)) (L.writes w).taken ∷ []

module _ {L : Lending} {S G O : Type 0} (m : Means L S G O) (max_body : ℕ) (history : L.Conns → List ConnEvent)
    (left_of : L.Conns → ℕ) (over : AreOver L history left_of) where
  -- behind these connections the door tells of each, and so many fewer are left
  abbrev IsBehind : L.Conns → List (Talk m max_body) → L.Conns → Type 0
  IsBehind conns ts left =
      (history left ≡ history conns ++ flat_map (events_of m max_body) ts) × (length ts ≤ left_of conns)

  one_behind : (conns mid back left : L.Conns) (t : Talk m max_body) (ts : List (Talk m max_body))
      → L.gives conns (Some (t.reader, t.writer)) mid → L.takes_back mid (t.reader_left, t.writer_left) back
      → IsBehind back ts left → IsBehind conns (t ∷ ts) left
  one_behind conns mid back left t ts gives takes rest =
      let fewer = over.fewer conns mid t.reader t.writer gives in
      let same = over.same mid back t.reader_left t.writer_left takes in
      let both = over.back mid back t.reader_left t.writer_left takes
      ∙ ap (λ h. h ++ given_back (transcript_of (L.reads t.reader_left)) (L.writes t.writer_left).taken ∷ [])
      (over.one conns mid t.reader t.writer gives) ∙ append_assoc (history conns) (made ∷ []) _ in (
        rest.0 ∙ ap (λ h. h ++ flat_map (events_of m max_body) ts) both
            ∙ append_assoc (history conns) (events_of m max_body t) (flat_map (events_of m max_body) ts),
        omega (arith, rest.1, fewer, same),
      )

  all_behind : (conns left : L.Conns) (desk new : SeatState × S) (ts : List (Talk m max_body))
      → Serves m max_body conns desk ts left new → IsBehind conns ts left
  all_behind conns left desk new [] s =
      (over.none conns left s.0 ∙ sym (append-nil (history conns)), omega arith)
  all_behind conns left desk new (t ∷ ts) s =
      one_behind conns s.0 s.1 left t ts s.2 s.3
      (⊎_elim
      (λ (x : (t.end ≡ DeskGone) × IsLast m max_body s.1 t ts left new).
      subst (λ (us : List (Talk m max_body)). IsBehind s.1 us left) (sym x.1.0)
      (ap history x.1.1 ∙ sym (append-nil (history s.1)), omega arith))
      (λ (x : (t.end ≡ DeskGone → ⊥) × Serves m max_body s.1 t.new ts left new).
      all_behind s.1 left t.new new ts x.1)
      (behind t.end (IsLast m max_body s.1 t ts left new) (Serves m max_body s.1 t.new ts left new) s.5))

  served_at : (so_many : ℕ → Type 0) (conns left : L.Conns) (desk new : SeatState × S) (ts : List (Talk m max_body))
      → Serves m max_body conns desk ts left new → (length ts ≤ left_of conns → so_many (length ts))
      → IsServedAt m max_body so_many ts (history conns) (history left)
  served_at so_many conns left desk new ts s enough =
      let at = all_behind conns left desk new ts s in
      record {
        counted = enough at.1;
        told = connections_told m over.unused max_body conns left desk new ts s;
        history = at.0;
      }

module _ {L : Lending} {S G O M D : Type 0} (m : Means L S G O) (tells : M → ℕ → M → Type 0) (since : ℕ)
    (start : State) (given : Given M (Lent L S G O)) (left : Left M (Lent L S G O))
    (pool : IsServedSince m tells since given left) (begins : given.service ≡ start)
    (door : L.Conns → D) (history : D → List ConnEvent) (left_of : L.Conns → ℕ)
    (over : AreOver L (λ c. history (door c)) left_of) (count : ℕ)
    (lefts : All (λ n. n ≡ count) (map (λ (w : Lent L S G O). left_of w.conns) given.workers))
    (back : List D) (back_is : back ≡ map (λ (w : Lent L S G O). door w.conns) left.workers) where
  abbrev doors : List (Lent L S G O) → List D
  doors workers = map (λ (w : Lent L S G O). door w.conns) workers

  history_at : (workers : List (Lent L S G O)) (seat : ℕ) (worker : Lent L S G O) → seat < length workers
      → get_or (map history (doors workers)) seat [] ≡ history (door (get_or workers seat worker).conns)
  history_at workers seat worker within =
      get_or-map history (doors workers) seat (door worker.conns) []
      (subst (λ n. seat < n) (sym (length-map workers _)) within)
      ∙ ap history (get_or-map (λ (w : Lent L S G O). door w.conns) workers seat worker (door worker.conns) within)

  left_at : (seat : ℕ) (worker : Lent L S G O) → seat < length given.workers
      → left_of (get_or given.workers seat worker).conns ≡ count
  left_at seat worker within =
      sym (get_or-map (λ (w : Lent L S G O). left_of w.conns) given.workers seat worker 0 within)
      ∙ lefts seat 0 (subst (λ n. seat < n) (sym (length-map given.workers _)) within)

  length_of : (workers : List (Lent L S G O)) → length (map history (doors workers)) ≡ length workers
  length_of workers = length-map (doors workers) history ∙ length-map workers _

  served_over : (so_many : ℕ → Type 0)
      → ((n seat : ℕ) (end : WorkerEnd) → seat < length left.ends → n ≤ count
      → (get_or left.ends seat end).conns ≡ min n count_limit → so_many n)
      → IsAtDoors m tells since start so_many (map history (doors given.workers)) (map history back)
      given left pool
  served_over so_many enough = record {
    begins = begins;
    numbered = sym (length_of given.workers);
    all_back =
        ap (λ b. length (map history b)) back_is ∙ length_of left.workers ∙ pool.all_back
        ∙ sym (length_of given.workers);
    doors = λ seat worker end within.
        let worked = (pool.parts seat worker end within).worked in
        let within_left = subst (λ n. seat < n) (sym pool.all_back) within in
        subst (λ (h : List ConnEvent × List ConnEvent).
        IsServedAt m given.service.limits.max_body so_many worked.talks h.0 h.1)
        (λ i. (
          sym (history_at given.workers seat worker within) i,
          sym (ap (λ b. get_or (map history b) seat []) back_is ∙ history_at left.workers seat worker within_left) i,
        ))
        (served_at m given.service.limits.max_body (λ c. history (door c)) left_of over so_many
        (get_or given.workers seat worker).conns (get_or left.workers seat worker).conns _ _ worked.talks worked.served
        (λ few.
        enough (length worked.talks) seat end (subst (λ n. seat < n) (sym pool.counted) within)
        (subst (λ n. length worked.talks ≤ n) (left_at seat worker within) few) worked.counted));
  }

  pub at_most : IsAtDoors m tells since start (λ n. n ≤ count) (map history (doors given.workers)) (map history back)
      given left pool
  at_most = served_over (λ n. n ≤ count) (λ n seat end within few counted. few)

  -- if each took so many, each served so many
  pub exactly : All (λ (end : WorkerEnd). end.conns ≡ count) left.ends
      → IsAtDoors m tells since start (λ n. n ≡ count) (map history (doors given.workers)) (map history back)
      given left pool
  exactly took =
      served_over (λ n. n ≡ count)
      (λ n seat end within few counted. omega (arith, few, sym counted ∙ took seat end within))
