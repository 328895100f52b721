-- What the observer of a connection is told, read aloud: of each request that was read its method and its target, as
-- they came, and behind them the status and the size of its reply, in the order of the replies; and at the end what was
-- read and replied to there.
use Rattle.std.specs.Prelude.{◌≡◌, ℕ, ◌⊎◌, List, [], ◌∷◌, ◌++◌, length, if◌then◌else◌}
use Rattle.httparse.specs.Grammar.{RequestHead}
use Rattle.http_wire.specs.States.{SourceState, SinkState}
use Rattle.http_wire.specs.HeadText.{status_number, bad_status}
use Rattle.http_wire.specs.Fronts.{IsCutHead, IsRefused, IsTooLong, ReadsHead, requests}
use Rattle.http_wire.specs.declared.fault.Bad.{Bad}
use Rattle.upload_service.specs.declared.answer.Answer.{Answer}
use Rattle.upload_wire.specs.declared.request.Style.{Style}
use Rattle.upload_wire.specs.Events.{Event, Head, Unreadable, Replied, Telling, Hears}
use Rattle.upload_wire.specs.ReplySize.{body_size}
use Rattle.upload_wire.specs.ReplyText.{reply_of}
use Rattle.upload_wire.specs.Conversation.{Moves, WireExchange, ConnectionState, connection, Standing, stand, EndsWith}
use Rattle.upload_wire.specs.Conversation.{IsConversation}
use Rattle.upload_wire.specs.declared.connection.ConnEnd.{ConnEnd}
use Rattle.upload_wire.specs.declared.connection.ConnEnd.TheVariants.{Clean, AfterClose, AfterBad, TooMany, DeskGone}
use Rattle.upload_wire.specs.declared.connection.ConnEnd.TheVariants.{Fault}
use Rattle.upload_wire.specs.declared.connection.ConnFault.TheVariants as Conn
use mathlib.Core.Logic.{⊎_elim}

-- ---- one request

-- the text begins with a head that has this method and this target
pub record HasLine (text method target : List ℕ) : Type 0 where
  pub head : RequestHead
  pub rest : List ℕ
  pub reads : ReadsHead requests text head rest
  pub is_method : method ≡ head.method
  pub is_target : target ≡ head.target

-- the event tells the head that the text begins with, or that it has none which can be read
abbrev pub TellsHead : List ℕ → Event → Type 0
TellsHead text (Head method target) = HasLine text method target
TellsHead text Unreadable = IsRefused requests text ⊎ IsTooLong requests text
TellsHead text (Replied status size) = ⊥

-- just a head that the text begins with is told
pub record TellsLine (text : List ℕ) (events : List Event) : Type 0 where
  pub method : List ℕ
  pub target : List ℕ
  pub line : HasLine text method target
  pub events_are : events ≡ Head method target ∷ []

-- the reply to an answer: its status, and how many bytes of body it has; one to a HEAD has none
abbrev pub event_of : Answer → Style → Event
event_of answer style = Replied (status_number (reply_of answer).status) (if style.head then 0 else body_size answer)

-- the head of the request, and then its reply
pub record TellsExchange (x : WireExchange) (events : List Event) : Type 0 where
  pub method : List ℕ
  pub target : List ℕ
  pub line : HasLine x.message method target
  pub events_are : events ≡ Head method target ∷ event_of x.answer x.style ∷ []

-- each of these requests with its reply, in order
abbrev pub TellsEach : List WireExchange → List Event → Type 0
TellsEach [] events = events ≡ []
TellsEach (x ∷ xs) events =
    (first : List Event) × (others : List Event) × TellsExchange x first × TellsEach xs others
    × (events ≡ first ++ others)

-- the head of what is refused, and then its reply, which has no body
pub record TellsRefusal (text : List ℕ) (why : Bad) (events : List Event) : Type 0 where
  pub first : Event
  pub tells : TellsHead text first
  pub events_are : events ≡ first ∷ Replied (status_number (bad_status why)) 0 ∷ []

-- the head that the text begins with, and nothing if it begins with none
abbrev pub TellsCut : List ℕ → List Event → Type 0
TellsCut text events = (((text ≡ []) ⊎ IsCutHead requests text) × (events ≡ [])) ⊎ TellsLine text events

-- ---- an end

-- The last of a conversation: how its desk moves, its limit, where it stood, and the connection as it is left.
pub record Ending (D : Type 0) : Type 1 where
  pub moves : Moves D
  pub max_body : ℕ
  pub stood : Standing D
  pub left : ConnectionState D

abbrev pub EndsAs : {D : Type 0} → Ending D → ConnEnd → Type 0
EndsAs k end = EndsWith k.moves k.max_body k.stood k.left end

-- what is told of an end: the request that was answered there, the one that was refused, or the head that nobody
-- replied to
abbrev pub TellsEnd : {D : Type 0} → (k : Ending D) (end : ConnEnd) → EndsAs k end → List Event → Type 0
TellsEnd k Clean e events = events ≡ []
TellsEnd k AfterClose e events = TellsExchange e.0 events
TellsEnd k AfterBad e events = TellsRefusal k.stood.held e.0 events
TellsEnd k TooMany e events = TellsExchange e.0 events
TellsEnd k DeskGone e events = TellsLine k.stood.held events
TellsEnd k (Fault (Conn.Wire fault)) e events = TellsCut k.stood.held events
TellsEnd k (Fault Conn.Write) e events =
    ⊎_elim (λ w. TellsExchange w.0 events) (λ w. TellsRefusal k.stood.held w.0 events) e

-- ---- the whole

-- how a desk moves and an observer is told, and the most bytes of a body
pub record Rules (D O : Type 0) : Type 1 where
  pub moves : Moves D
  pub told : Telling O
  pub max_body : ℕ

abbrev pub rules : {D O : Type 0} → Moves D → Telling O → ℕ → Rules D O
rules moves told max_body = record { moves = moves; told = told; max_body = max_body }

-- what a connection is served with: what is read, the desk, the observer, and what is written to
pub record Sides (D O : Type 0) : Type 0 where
  pub source : SourceState
  pub desk : D
  pub observer : O
  pub sink : SinkState

abbrev pub sides : {D O : Type 0} → SourceState → D → O → SinkState → Sides D O
sides source desk observer sink = record { source = source; desk = desk; observer = observer; sink = sink }

-- the connection, without its observer
abbrev pub connection_in : {D O : Type 0} → Sides D O → ConnectionState D
connection_in s = connection s.source s.desk s.sink

-- What was read, asked and written is a conversation with this end, and the observer was told of it and of nothing
-- else: of each request behind which the connection went on, and then of its end.
pub record IsTold {D O : Type 0} (r : Rules D O) (old new : Sides D O) (end : ConnEnd) : Type 0 where
  pub conversation : IsConversation r.moves r.max_body (connection_in old) (connection_in new) end
  pub of_exchanges : List Event
  pub of_end : List Event
  pub each : TellsEach conversation.exchanges of_exchanges
  pub last : TellsEnd (record {
    moves = r.moves;
    max_body = r.max_body;
    stood = stand (length conversation.exchanges) conversation.rest conversation.at conversation.mid;
    left = connection_in new;
  }) end conversation.ended of_end
  pub told : Hears r.told old.observer (of_exchanges ++ of_end) new.observer
