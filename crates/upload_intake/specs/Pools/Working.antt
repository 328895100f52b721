-- A WORKER'S HISTORY: the connections that it was given, each a conversation over its seat, one behind the other.
use Rattle.std.specs.Prelude.{◌≡◌, ℕ, min, Bool, true, false, List, [], ◌∷◌, ◌++◌, length, filter, Option, Some, None}
use Rattle.std.specs.List.{flat_map}
use Rattle.upload_service.specs.declared.ask.Ask.{Ask}
use Rattle.upload_intake.specs.declared.work.Worker.{Worker}
use Rattle.upload_intake.specs.declared.work.WorkerEnd.{WorkerEnd}
use Rattle.upload_keeper.specs.Seats.{SeatState}
use Rattle.upload_intake.specs.SeatConversations.{SeatSteps}
use Rattle.upload_keeper.specs.Settled.{count_limit}
use Rattle.upload_intake.specs.Notices.{Watching}
use Rattle.upload_intake.specs.Watched.{IsWatched}
use Rattle.http_wire.specs.States.{SourceState, SinkState}
use Rattle.upload_wire.specs.Conversation.{Moves, WireExchange, ConnectionState, connection, IsConversation, stand}
use Rattle.upload_wire.specs.Events.{Event, Telling, Hears}
use Rattle.upload_wire.specs.Told.{TellsEach, TellsEnd}
use Rattle.upload_wire.specs.ConnectionRuns.{answered, unanswered}
use Rattle.upload_wire.specs.declared.connection.ConnEnd.{ConnEnd}
use Rattle.upload_wire.specs.declared.connection.ConnEnd.TheVariants.{Clean, AfterClose, DeskGone}

-- How a worker is given connections, how each is taken back behind its conversation, and what contracts see of a reader
-- and of a writer.
pub record Lending : Type 1 where
  pub Conns : Type 0
  pub In : Type 0
  pub Out : Type 0
  pub gives : Conns → Option (In × Out) → Conns → Type 0
  pub takes_back : Conns → In × Out → Conns → Type 0
  pub reads : In → SourceState
  pub writes : Out → SinkState

abbrev pub lending : {C In Out : Type 0} → (C → Option (In × Out) → C → Type 0) → (C → In × Out → C → Type 0)
    → (In → SourceState) → (Out → SinkState) → Lending
lending {C} {In} {Out} gives takes_back reads writes = record {
  Conns = C;
  In = In;
  Out = Out;
  gives = gives;
  takes_back = takes_back;
  reads = reads;
  writes = writes;
}

-- The same, and how secrets are drawn, how a worker's gate watches, and how its observer takes what it is told.
pub record Means (L : Lending) (S G O : Type 0) : Type 1 where
  pub draws : S → List ℕ → S → Type 0
  pub watches : Watching G
  pub told : Telling O

abbrev pub means : (L : Lending) {S G O : Type 0} → (S → List ℕ → S → Type 0) → Watching G → Telling O → Means L S G O
means L draws watches told = record { draws = draws; watches = watches; told = told }

-- what a worker is lent, as it has it before and behind its connections
abbrev pub Lent : Lending → Type 0 → Type 0 → Type 0 → Type 0
Lent L S G O = Worker L.Conns S G O

-- the ends that a worker counts as clean
abbrev pub is_clean : ConnEnd → Bool
is_clean Clean = true
is_clean AfterClose = true
is_clean other = false

abbrev pub is_gone : ConnEnd → Bool
is_gone DeskGone = true
is_gone other = false

-- of two facts the one that has to hold behind such an end: the first if the desk was gone
abbrev pub Behind : ConnEnd → Type 0 → Type 0 → Type 0
Behind DeskGone gone on = gone
Behind other gone on = on

module _ {L : Lending} {S G O : Type 0} (m : Means L S G O) (max_body : ℕ) where
  -- how a worker's desk moves: its seat is asked with the secret drawn next
  abbrev pub steps : Moves (SeatState × S)
  steps = SeatSteps {D = SeatState × S} {S = S} m.draws (λ d. d.0) (λ d. d.1)

  -- A connection that was served: the reader and the writer as they were given and as they were left, the seat and the
  -- secrets before and behind it, and how it ended. What was read and written is a conversation over the seat.
  pub record Talk : Type 0 where
    pub reader : L.In
    pub writer : L.Out
    pub reader_left : L.In
    pub writer_left : L.Out
    pub old : SeatState × S
    pub new : SeatState × S
    pub end : ConnEnd
    pub conversation : IsConversation steps max_body (connection (L.reads reader) old (L.writes writer))
        (connection (L.reads reader_left) new (L.writes writer_left)) end

  -- the connection as it was given, with the seat before it, and as it was left, with the seat behind it
  abbrev pub connection_given : Talk → ConnectionState (SeatState × S)
  connection_given t = connection (L.reads t.reader) t.old (L.writes t.writer)

  abbrev pub connection_left : Talk → ConnectionState (SeatState × S)
  connection_left t = connection (L.reads t.reader_left) t.new (L.writes t.writer_left)

  -- what was asked and answered on these connections, in order; and the request at which the desk was gone
  abbrev pub answered_on : Talk → List WireExchange
  answered_on t = answered steps max_body (connection_given t) (connection_left t) t.end t.conversation

  abbrev pub unanswered_on : Talk → List Ask
  unanswered_on t = unanswered steps max_body (connection_given t) (connection_left t) t.end t.conversation

  abbrev pub all_answered : List Talk → List WireExchange
  all_answered ts = flat_map answered_on ts

  abbrev pub all_unanswered : List Talk → List Ask
  all_unanswered ts = flat_map unanswered_on ts

  abbrev pub count_clean : List Talk → ℕ
  count_clean ts = length (filter (λ t. is_clean t.end) ts)

  -- none is taken behind a connection; once it is taken back, the worker's connections, its seat and its secrets are
  -- these
  abbrev pub IsLast : L.Conns → Talk → List Talk → L.Conns → SeatState × S → Type 0
  IsLast back t ts left new = (ts ≡ []) × (left ≡ back) × (new ≡ t.new)

  -- From this seat on: no more comes; or the next connection that is given is served from where the seat stands, and
  -- taken back as its conversation left it, and so on, but if the desk was gone: behind that connection none is
  -- taken.
  abbrev pub Serves : L.Conns → SeatState × S → List Talk → L.Conns → SeatState × S → Type 0
  Serves conns desk [] left new = L.gives conns None left × (new ≡ desk)
  Serves conns desk (t ∷ ts) left new =
      (mid : L.Conns) × (back : L.Conns) × L.gives conns (Some (t.reader, t.writer)) mid
      × L.takes_back mid (t.reader_left, t.writer_left) back × (t.old ≡ desk)
      × Behind t.end (IsLast back t ts left new) (Serves back t.new ts left new)

  -- these events tell a connection: each of its requests with its reply, in order, and then its end
  pub record TellsTalk (t : Talk) (events : List Event) : Type 0 where
    pub of_exchanges : List Event
    pub of_end : List Event
    pub each : TellsEach t.conversation.exchanges of_exchanges
    pub last : TellsEnd (record {
      moves = steps;
      max_body = max_body;
      stood = stand (length t.conversation.exchanges) t.conversation.rest t.conversation.at t.conversation.mid;
      left = connection_left t;
    }) t.end t.conversation.ended of_end
    pub events_are : events ≡ of_exchanges ++ of_end

  -- each of these connections, one behind the other
  abbrev pub TellsTalks : List Talk → List Event → Type 0
  TellsTalks [] events = events ≡ []
  TellsTalks (t ∷ ts) events =
      (first : List Event) × (others : List Event) × TellsTalk t first × TellsTalks ts others
      × (events ≡ first ++ others)

  -- What a worker did over its seat, from what it was lent to what it hands back: what it served, what its gate and its
  -- observer were told of that, how many connections it took, and how many of them ended clean.
  pub record IsWorked (lent : Lent L S G O) (seat : SeatState) (back : Lent L S G O) (new : SeatState)
      (end : WorkerEnd) : Type 0 where
    pub talks : List Talk
    pub served : Serves lent.conns (seat, lent.secrets) talks back.conns (new, back.secrets)
    pub watched : IsWatched m.watches lent.gate (all_answered talks) (all_unanswered talks) back.gate
    pub events : List Event
    pub tells : TellsTalks talks events
    pub heard : Hears m.told lent.observer events back.observer
    pub counted : end.conns ≡ min (length talks) count_limit
    pub clean_ones : end.clean ≡ min (count_clean talks) count_limit

-- Each connection that was served may come back: what was read and written over it, from how it was given, is a
-- conversation over some seat.
abbrev pub ServedComeBack : {L : Lending} {S G O : Type 0} → Means L S G O → (L.Conns → L.In × L.Out → Type 0) → Type 0
ServedComeBack {L} m may_come_back = (max_body : ℕ) (before given : L.Conns) (t : Talk m max_body)
    → L.gives before (Some (t.reader, t.writer)) given → may_come_back given (t.reader_left, t.writer_left)
