-- What a server did over connections that it was lent, and what it prints.
use Rattle.std.specs.Prelude.{◌≡◌, ℕ, ◌<◌, ◌≤◌, ◌⊎◌, List, [], ◌∷◌, ◌++◌, length, codes, get_or, All, ⊤}
use Rattle.std.specs.Prelude.{Option, Some, None}
use Rattle.std.specs.Io.KnownBytes.{Appends}
use Rattle.std.specs.List.{AllByRecursion, flat_map}
use Rattle.std.specs.Net.Text.{socket_text}
use Rattle.std.specs.declared.net.socket_addr.SocketAddr.{SocketAddr}
use Rattle.upload_service.specs.Machine.{State, empty_state}
use Rattle.upload_service.specs.Run.{Exchange}
use Rattle.upload_intake.specs.declared.work.WorkerEnd.{WorkerEnd}
use Rattle.upload_intake.specs.Pools.ServedPool.{Given, Left, IsServedPool, IsServedSince}
use Rattle.upload_intake.specs.Pools.KeptPool.{IsKeptPool}
use Rattle.upload_intake.specs.Transcripts.{TellsAll}
use Rattle.upload_intake.specs.Pools.Working.{Lending, Means, Lent, Talk}
use Rattle.upload_keeper.specs.Seats.{SeatState, Hears}
use Rattle.upload_wire.specs.Conversation.{ConnectionState, IsConversation, Moves}
use Rattle.upload_wire.specs.declared.connection.ConnEnd.{ConnEnd}
use Rattle.http_wire.specs.States.{TranscriptState}
use Rattle.blobd_shared.specs.Connections.{ConnEvent, transcript_of}
use Rattle.blobd_shared.specs.Connections.ConnEvent.{made, given_back}
use Rattle.blobd_shared.specs.Status.{line}
use Rattle.blobd_serve.specs.Limits.{program_limits}

module _ {L : Lending} {S G O : Type 0} (m : Means L S G O) (max_body : ℕ) where
  -- what a connection that was served is in a history: it was accepted, and given back with all that was read and
  -- written over it
  abbrev pub events_of : Talk m max_body → List ConnEvent
  events_of t =
      made ∷ given_back (transcript_of (L.reads t.reader_left)) (L.writes t.writer_left).taken ∷ []

  -- A worker served these connections, so many, over a door whose history went from one to the other: each of them was
  -- accepted there, all that was read over it is what its conversation read, and all that was written what its
  -- conversation wrote. No other was accepted.
  pub record IsServedAt (so_many : ℕ → Type 0) (talks : List (Talk m max_body)) (old new : List ConnEvent)
      : Type 0 where
    pub counted : so_many (length talks)
    pub told : AllByRecursion (TellsAll m max_body) talks
    pub history : new ≡ old ++ flat_map events_of talks

-- how a seat moves, with any secret
abbrev pub HeardSteps : Moves SeatState
HeardSteps old ask answer new = (secret : List ℕ) × Hears old ask secret answer new

-- A connection that was served: from when nothing had been read or written over it until all this was, it had a
-- conversation over some seat, each of whose answers is what that seat heard. It need not be the worker's.
pub record IsServed (given : TranscriptState) (taken : List ℕ) : Type 0 where
  pub max_body : ℕ
  pub old : ConnectionState SeatState
  pub new : ConnectionState SeatState
  pub end : ConnEnd
  pub unread : old.source.given ≡ []
  pub unwritten : old.sink.taken ≡ []
  pub read : transcript_of new.source ≡ given
  pub written : new.sink.taken ≡ taken
  pub conversation : IsConversation HeardSteps max_body old new end

-- each connection of these doors that was served may come back
abbrev pub DoorsTakeBack : {L In Out : Type 0} → (In → TranscriptState) → (Out → List ℕ) → (L → In × Out → Type 0)
    → Type 0
DoorsTakeBack {L} {In} {Out} given taken may_come_back = (door : L) (source : In) (sink : Out)
    → IsServed (given source) (taken sink) → may_come_back door (source, sink)

-- The workers of a pool that began with this service served so many connections each, each over a door of its own. The
-- doors' histories went from these to those.
pub record IsAtDoors {L : Lending} {S G O M : Type 0} (m : Means L S G O) (tells : M → ℕ → M → Type 0) (since : ℕ)
    (start : State) (so_many : ℕ → Type 0) (lent back : List (List ConnEvent)) (given : Given M (Lent L S G O))
    (left : Left M (Lent L S G O)) (pool : IsServedSince m tells since given left) : Type 0 where
  pub begins : given.service ≡ start
  pub numbered : length given.workers ≡ length lent
  pub all_back : length back ≡ length lent
  pub doors : (seat : ℕ) (worker : Lent L S G O) (end : WorkerEnd) (within : seat < length given.workers)
      → IsServedAt m given.service.limits.max_body so_many (pool.parts seat worker end within).worked.talks
      (get_or lent seat []) (get_or back seat [])

-- Workers served as one new service in one order, each over a door of its own, so many connections each. The doors'
-- histories went from these to those.
pub record IsServedOver {L : Lending} {S G O M : Type 0} (m : Means L S G O) (tells : M → ℕ → M → Type 0)
    (so_many : ℕ → Type 0) (lent back : List (List ConnEvent)) : Type 0 where
  pub given : Given M (Lent L S G O)
  pub left : Left M (Lent L S G O)
  pub pool : IsServedPool m tells given left
  pub at : IsAtDoors m tells 0 (empty_state program_limits 0) so_many lent back given left pool

-- what a server that keeps its changes is lent and hands back: the doors' histories, and all that is kept
pub record Kept : Type 0 where
  pub doors : List (List ConnEvent)
  pub exchanges : List Exchange

-- The same from this service on, and from this moment on. Each exchange that changed something was kept after what was
-- kept before, in the order in which they were served, and nothing else was.
pub record IsKeptOver {L : Lending} {S G O M : Type 0} (m : Means L S G O) (tells : M → ℕ → M → Type 0) (since : ℕ)
    (start : State) (so_many : ℕ → Type 0) (lent back : Kept) : Type 0 where
  pub given : Given M (Lent L S G O)
  pub left : Left M (Lent L S G O)
  pub pool : IsKeptPool m tells since given left lent.exchanges back.exchanges
  pub at : IsAtDoors m tells since start so_many lent.doors back.doors given left pool.served

-- what a server that is done prints: its address, and that it served
abbrev pub served_lines : SocketAddr → List ℕ
served_lines addr = line (codes "listening " ++ socket_text addr) ++ line (codes "served")

-- What a server was lent went to what it handed back, and each worker served so many connections.
module _ {B : Type 0} (served : (ℕ → Type 0) → B → B → Type 0) (count : ℕ) (lent : B) where
  -- each worker served so many connections; what was lent wasn't lost
  abbrev pub HasServed : Option B → Type 0
  HasServed None = ⊥
  HasServed (Some back) = served (λ n. n ≡ count) lent back

  -- each served so many at most; or what was lent is lost, and nothing is said
  abbrev pub MayHaveServed : Option B → Type 0
  MayHaveServed None = ⊤
  MayHaveServed (Some back) = served (λ n. n ≤ count) lent back

  -- A server at this address is done, and its two lines were printed and nothing else; or the status is that of a
  -- fault.
  abbrev pub Ends : SocketAddr → Option B → Option (List ℕ) → Option (List ℕ) → ℕ → Type 0
  Ends addr back before after status =
      ((status ≡ 0) × HasServed back × Appends before after (served_lines addr))
      ⊎ ((status ≡ 3) × MayHaveServed back)

-- a server with a new service ends so over these doors
abbrev pub EndsServing : {L : Lending} {S G O M : Type 0} → Means L S G O → (M → ℕ → M → Type 0) → ℕ
    → List (List ConnEvent) → SocketAddr → Option (List (List ConnEvent)) → Option (List ℕ) → Option (List ℕ) → ℕ
    → Type 0
EndsServing m tells count lent addr back before after status =
    Ends (IsServedOver m tells) count lent addr back before after status

-- a server that keeps its changes ends so
abbrev pub EndsKeeping : {L : Lending} {S G O M : Type 0} → Means L S G O → (M → ℕ → M → Type 0) → ℕ → State → ℕ
    → Kept → SocketAddr → Option Kept → Option (List ℕ) → Option (List ℕ) → ℕ → Type 0
EndsKeeping m tells since start count lent addr back before after status =
    Ends (IsKeptOver m tells since start) count lent addr back before after status

-- at some address, over so many doors at which nothing was accepted before, a server ends so; or the status is that of
-- a fault
module _ {B : Type 0} (ends : List (List ConnEvent) → SocketAddr → Option B → Type 0) (number status : ℕ) where
  abbrev pub AtNewDoors : Type 0
  AtNewDoors =
      ((addr : SocketAddr) × (lent : List (List ConnEvent)) × (back : Option B)
      × (length lent ≡ number) × All (λ history. history ≡ []) lent × ends lent addr back)
      ⊎ (status ≡ 3)

abbrev pub ServesAnew : {L : Lending} {S G O M : Type 0} → Means L S G O → (M → ℕ → M → Type 0) → ℕ → ℕ
    → Option (List ℕ) → Option (List ℕ) → ℕ → Type 0
ServesAnew m tells number count before after status =
    AtNewDoors (λ lent addr back. EndsServing m tells count lent addr back before after status) number status

abbrev pub ServesOn : {L : Lending} {S G O M : Type 0} → Means L S G O → (M → ℕ → M → Type 0) → ℕ → State
    → List Exchange → ℕ → ℕ → Option (List ℕ) → Option (List ℕ) → ℕ → Type 0
ServesOn m tells since start kept number count before after status =
    AtNewDoors (λ lent addr back. EndsKeeping m tells since start count (record { doors = lent; exchanges = kept }) addr
    back before after status) number status
