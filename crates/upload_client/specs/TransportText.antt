-- One ask over a wire: a request is written, and one reply is heard.
use Rattle.std.specs.Prelude.{◌≡◌, ℕ, Bool, true, false, not, ◌&&◌, ◌==◌, nat_lt, nat_le, List, length, IsTrue, OnOk}
use Rattle.std.specs.Prelude.{Option, Some, None, Result, Ok, Err, is_err, ⊤, if◌then◌else◌}
use Rattle.std.specs.Result.{result_ok}
use Rattle.upload_service.specs.declared.ask.Ask.{Ask}
use Rattle.http_wire.specs.States.{SinkState}
use Rattle.http_wire.specs.Writing.{Wrote}
use Rattle.upload_client.specs.AskText.{ask_text, message_of, wants_head}
use Rattle.upload_client.specs.AnswerText.{AnswerReaderState, ReadsAnswer, most_answer_reads}
use Rattle.http_wire.specs.Reading.{Costs}
use Rattle.http_wire.specs.declared.writing.WriteFault.{WriteFault}
use Rattle.upload_client.specs.declared.heard.Heard.{Heard}
use Rattle.upload_client.specs.declared.heard.HeardFault.{HeardFault}
use Rattle.upload_client.specs.declared.heard.HeardFault.TheVariants as Fault

-- what contracts see of a transport over a wire: its reader, what its writer holds, the host, and whether a fault broke
-- it
pub record WireState : Type 0 where
  pub reader : AnswerReaderState
  pub writer : SinkState
  pub host : List ℕ
  pub broken : Bool

-- a transport that isn't broken has a reader that goes on
abbrev pub ReaderGoesOn : Bool → AnswerReaderState → Type 0
ReaderGoesOn true reader = Unit {0}
ReaderGoesOn false reader = reader.ended ≡ false

-- Whether more can be asked: no fault broke the transport, the reply that was heard last keeps the connection, and the
-- reader holds no byte behind it. One that it holds came before the next request was written, and is no reply to that
-- (RFC 9112, section 9.2).
abbrev pub stays_open : WireState → Bool
stays_open wire = not wire.broken && (wire.reader.keep && (length wire.reader.input.held == 0))

-- the request has a body of at least one byte
abbrev pub has_body : Ask → Bool
has_body ask = not (length (message_of ask).body == 0)

-- A status that refuses a request as it is, whatever the rest of it: 4xx. Not 408, which says that the request came too
-- slowly and may be sent again, and not 416, which leads on.
abbrev pub is_refusal : ℕ → Bool
is_refusal status = (nat_le 400 status && nat_lt status 500) && (not (status == 408) && not (status == 416))

-- what is heard of the reply to a request that wasn't written whole: its refusal, and nothing else
abbrev pub refusal_in : Result Heard HeardFault → Option Heard
refusal_in (Ok heard) = if is_refusal heard.status then Some heard else None
refusal_in (Err fault) = None

-- one reply was read; a failed read is Read, and nothing else is
pub record ReadsReply (head_only : Bool) (old : AnswerReaderState) (reply : Result Heard HeardFault)
    (new : AnswerReaderState) : Type 0 where
  pub read : ReadsAnswer head_only old.input new.input reply new.keep
  pub costs : Costs most_answer_reads (reply ≡ Err Fault.Read) old.input.source new.input.source

-- what is awaited behind a request
pub data Awaited : Type 0 where
  a_reply : Awaited
  a_refusal : Awaited
  no_reply : Awaited

-- A reply, if the request was written whole. If a write failed of one with a body, a refusal: the server may have sent
-- it before it closed.
abbrev pub awaited : Result ⊤ WriteFault → Bool → Awaited
awaited (Ok u) body = a_reply
awaited (Err fault) true = a_refusal
awaited (Err fault) false = no_reply

-- What is heard of what is awaited. One reply is read and heard, and a fault of it breaks the transport. If a write
-- failed the transport is broken in any case; if a refusal is awaited one reply is read all the same, and a refusal
-- is heard and nothing else.
abbrev pub HearsBehind : Awaited → Bool → WireState → Option Heard → WireState → Type 0
HearsBehind a_reply head_only old heard new =
    (reply : Result Heard HeardFault) × ReadsReply head_only old.reader reply new.reader × (heard ≡ result_ok reply)
    × (new.broken ≡ is_err reply)
HearsBehind a_refusal head_only old heard new =
    (reply : Result Heard HeardFault) × ReadsReply head_only old.reader reply new.reader × (heard ≡ refusal_in reply)
    × (new.broken ≡ true)
HearsBehind no_reply head_only old heard new = (heard ≡ None) × (new.reader ≡ old.reader) × (new.broken ≡ true)

-- the request was written and handed on, or a prefix of it was written if a write failed, and this was heard behind
-- it
pub record Exchanges (old : WireState) (ask : Ask) (heard : Option Heard) (new : WireState) : Type 0 where
  pub written : Result ⊤ WriteFault
  pub wrote : Wrote old.writer new.writer (ask_text ask old.host) written
  pub flushed : OnOk written (IsTrue new.writer.flushed)
  pub hears : HearsBehind (awaited written (has_body ask)) (wants_head ask) old heard new
  pub same_host : new.host ≡ old.host

-- the same transport, broken
abbrev pub broken_of : WireState → WireState
broken_of wire = record { reader = wire.reader; writer = wire.writer; host = wire.host; broken = true }

-- if more can't be asked nothing is written, read or heard, and the transport is broken
abbrev pub AsksWhere : Bool → WireState → Ask → Option Heard → WireState → Type 0
AsksWhere true old ask heard new = Exchanges old ask heard new
AsksWhere false old ask heard new = (heard ≡ None) × (new ≡ broken_of old)

abbrev pub AsksOverWire : WireState → Ask → Option Heard → WireState → Type 0
AsksOverWire old ask heard new = AsksWhere (stays_open old) old ask heard new
