-- A connection as a conversation (RFC 9112, section 9.3): requests that were read one after another, each answered by
-- the desk and replied to, and an end.
use Rattle.std.specs.Prelude.{◌≡◌, ℕ, ◌+◌, ◌<◌, ◌⊎◌, ◌==◌, ◌&&◌, not, true, false, List, [], ◌∷◌, ◌++◌, length}
use Rattle.std.specs.Prelude.{flat_map, IsTrue, Option, Some, None, ⊤}
use Rattle.std.specs.List.{AllByRecursion}
use Rattle.upload_service.specs.declared.ask.Ask.{Ask}
use Rattle.upload_service.specs.declared.answer.Answer.{Answer}
use Rattle.http_wire.specs.Counts.{CountsUp}
use Rattle.upload_wire.specs.RequestText.{IsRequest, IsBad, IsTruncated, HoldsNoRequest}
use Rattle.http_wire.specs.HeadText.{bad}
use Rattle.upload_wire.specs.ReplyText.{reply}
use Rattle.http_wire.specs.States.{SourceState, SinkState}
use Rattle.http_wire.specs.Reading.{Gives, HasEnded}
use Rattle.http_wire.specs.Writing.{TookAll, TookFront}
use Rattle.http_wire.specs.declared.fault.Bad.{Bad}
use Rattle.http_wire.specs.declared.fault.WireFault.{WireFault}
use Rattle.http_wire.specs.declared.fault.WireFault.TheVariants as Wire
use Rattle.upload_wire.specs.declared.request.Style.{Style}
use Rattle.upload_wire.specs.declared.connection.ConnEnd.{ConnEnd}
use Rattle.upload_wire.specs.declared.connection.ConnEnd.TheVariants.{Clean, AfterClose, AfterBad, TooMany, DeskGone}
use Rattle.upload_wire.specs.declared.connection.ConnEnd.TheVariants.{Fault}
use Rattle.upload_wire.specs.declared.connection.ConnFault.TheVariants as Conn

-- the most requests of a connection
abbrev pub max_requests : ℕ
max_requests = 10000

-- how a desk moves: its state, an ask, an answer or none if it is gone, and its new state
abbrev pub Moves : Type 0 → Type 1
Moves D = D → Ask → Option Answer → D → Type 0

-- What a connection is served with: the source that requests are read from, the desk that answers them, and the sink
-- that their replies are written to.
pub record ConnectionState (D : Type 0) : Type 0 where
  pub source : SourceState
  pub desk : D
  pub sink : SinkState

abbrev pub connection : {D : Type 0} → SourceState → D → SinkState → ConnectionState D
connection source desk sink = record { source = source; desk = desk; sink = sink }

-- ---- exchanges

-- a request as it was read, what it asks, how it wants its reply, and what it was answered
pub record WireExchange : Type 0 where
  pub message : List ℕ
  pub ask : Ask
  pub style : Style
  pub answer : Answer

-- the message is the request
abbrev pub IsRead : ℕ → WireExchange → Type 0
IsRead max_body x = IsRequest max_body x.message x.ask x.style

-- and it wants the connection to go on
abbrev pub IsKept : ℕ → WireExchange → Type 0
IsKept max_body x = IsRead max_body x × (x.style.keep ≡ true)

-- what was read, and what was written
abbrev pub messages : List WireExchange → List ℕ
messages xs = flat_map (λ x. x.message) xs

abbrev pub replies : List WireExchange → List ℕ
replies xs = flat_map (λ x. reply x.answer x.style) xs

-- the desk gave these answers, one after another
abbrev pub Answers : {D : Type 0} → Moves D → D → List WireExchange → D → Type 0
Answers step old [] new = old ≡ new
Answers {D} step old (x ∷ xs) new = (mid : D) × step old x.ask (Some x.answer) mid × Answers step mid xs new

-- the sink took the whole text, no call failed, and all that was written was handed on
pub record HandedOn (old new : SinkState) (text : List ℕ) : Type 0 where
  pub took : TookAll old new text
  pub flushed : IsTrue new.flushed

-- each reply was written whole and handed on before the next was begun
abbrev pub HandedOnEach : SinkState → List WireExchange → SinkState → Type 0
HandedOnEach before [] mid = before ≡ mid
HandedOnEach before (x ∷ xs) mid =
    (next : SinkState) × HandedOn before next (reply x.answer x.style) × HandedOnEach next xs mid

-- Where a conversation stands: how many requests were answered, what was read and isn't answered, the desk and the
-- sink.
pub record Standing (D : Type 0) : Type 0 where
  pub answered : ℕ
  pub held : List ℕ
  pub desk : D
  pub sink : SinkState

abbrev pub stand : {D : Type 0} → ℕ → List ℕ → D → SinkState → Standing D
stand answered held desk sink = record { answered = answered; held = held; desk = desk; sink = sink }

-- From old to new these requests were answered: what was held is the requests and then what is still held; each request
-- wanted the connection to go on, was answered by the desk, and its reply was written whole and handed on.
pub record AnswersEach
    {D : Type 0} (step : Moves D) (max_body : ℕ) (old new : Standing D) (xs : List WireExchange)
    : Type 0 where
  pub few : length xs < max_requests
  pub counted : new.answered ≡ old.answered + length xs
  pub read : old.held ≡ messages xs ++ new.held
  pub kept : AllByRecursion (IsKept max_body) xs
  pub answered : Answers step old.desk xs new.desk
  pub written : TookAll old.sink new.sink (replies xs)
  pub handed_on : HandedOnEach old.sink xs new.sink

-- ---- ends

-- The reply to a request that comes behind so many others: the last that a connection may have closes it.
abbrev pub last_style : ℕ → Style → Style
last_style count style = record { head = style.head; keep = style.keep && not (count + 1 == max_requests) }

abbrev pub last_reply : ℕ → WireExchange → List ℕ
last_reply count x = reply x.answer (last_style count x.style)

-- what is held begins with the request, and the desk answered it
pub record AnswersNext {D : Type 0} (step : Moves D) (max_body : ℕ) (s : Standing D) (new : D) (x : WireExchange)
    : Type 0 where
  pub more : List ℕ
  pub read : s.held ≡ x.message ++ more
  pub request : IsRead max_body x
  pub answered : step s.desk x.ask (Some x.answer) new

-- what is held begins with a request, and the desk was gone when it was asked
pub record FindsNoDesk {D : Type 0} (step : Moves D) (max_body : ℕ) (s : Standing D) (new : D) : Type 0 where
  pub message : List ℕ
  pub more : List ℕ
  pub ask : Ask
  pub style : Style
  pub read : s.held ≡ message ++ more
  pub request : IsRequest max_body message ask style
  pub gone : step s.desk ask None new

-- what is held is refused as a request, and the desk wasn't asked
pub record Refuses {D : Type 0} (max_body : ℕ) (s : Standing D) (new : D) (why : Bad) : Type 0 where
  pub bad : IsBad max_body s.held why
  pub unasked : new ≡ s.desk

-- the desk wasn't asked, and the sink stands as it stood
pub record StandsStill {D : Type 0} (s : Standing D) (new : ConnectionState D) : Type 0 where
  pub unasked : new.desk ≡ s.desk
  pub unwritten : new.sink ≡ s.sink

-- why the reader gave no request: what the bytes say of it, and what the source does
abbrev pub WireStops : ℕ → List ℕ → SourceState → WireFault → Type 0
WireStops max_body rest left Wire.Truncated = IsTruncated max_body rest × HasEnded left
WireStops max_body rest left Wire.Read = HoldsNoRequest max_body rest
WireStops max_body rest left Wire.NoMemory = ⊤
WireStops max_body rest left Wire.Ended = ⊥

-- How a conversation that stands so ends, if what it holds is all that was read and not answered, and how the
-- connection is left.
abbrev pub EndsWith : {D : Type 0} → Moves D → ℕ → Standing D → ConnectionState D → ConnEnd → Type 0
EndsWith step max_body s new Clean = (s.held ≡ []) × HasEnded new.source × StandsStill s new
EndsWith step max_body s new AfterClose =
    (x : WireExchange) × AnswersNext step max_body s new.desk x × (x.style.keep ≡ false)
    × HandedOn s.sink new.sink (last_reply s.answered x)
EndsWith step max_body s new AfterBad =
    (why : Bad) × Refuses max_body s new.desk why × HandedOn s.sink new.sink (bad why)
EndsWith step max_body s new TooMany =
    (x : WireExchange) × AnswersNext step max_body s new.desk x × (x.style.keep ≡ true)
    × (s.answered + 1 ≡ max_requests)
    × HandedOn s.sink new.sink (last_reply s.answered x)
EndsWith step max_body s new DeskGone = FindsNoDesk step max_body s new.desk × (new.sink ≡ s.sink)
EndsWith step max_body s new (Fault (Conn.Wire fault)) =
    WireStops max_body s.held new.source fault × StandsStill s new
EndsWith step max_body s new (Fault Conn.Write) =
    ((x : WireExchange) × AnswersNext step max_body s new.desk x
    × TookFront s.sink new.sink (last_reply s.answered x))
    ⊎ ((why : Bad) × Refuses max_body s new.desk why × TookFront s.sink new.sink (bad why))

-- a read failed where the end says so, and nowhere else
abbrev pub ReadsFail : ConnEnd → ℕ → ℕ → Type 0
ReadsFail (Fault (Conn.Wire Wire.Read)) old new = CountsUp old new
ReadsFail other old new = new ≡ old

-- ---- the whole

-- The bytes that were read, the desk's moves, and the bytes that were written are a conversation with this end.
pub record IsConversation
    {D : Type 0} (step : Moves D) (max_body : ℕ) (old new : ConnectionState D) (end : ConnEnd)
    : Type 0 where
  pub bytes : List ℕ
  pub gives : Gives old.source new.source bytes
  pub reads : ReadsFail end old.source.failed_reads new.source.failed_reads
  pub exchanges : List WireExchange
  pub rest : List ℕ
  pub at : D
  pub mid : SinkState
  pub served : AnswersEach step max_body (stand 0 bytes old.desk old.sink) (stand (length exchanges) rest at mid)
      exchanges
  pub ended : EndsWith step max_body (stand (length exchanges) rest at mid) new end
