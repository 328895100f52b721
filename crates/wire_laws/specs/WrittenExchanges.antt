-- What a client asks a service over the wire is read as asked, and the reply is heard as what the service answered.
use Rattle.std.specs.Prelude.{ℕ, ◌<◌, ◌≤◌, ◌^◌, List, ◌++◌, length, IsTrue, ⊤}
use Rattle.upload_service.specs.Machine.{AreLawful, IsLawful, State, Turn}
use Rattle.upload_service.specs.declared.ask.Ask.{Ask}
use Rattle.upload_service.specs.declared.answer.Answer.{Answer}
use Rattle.upload_service.specs.declared.answer.Answer.TheVariants.{Blob}
use Rattle.http_wire.specs.Fronts.{max_head}
use Rattle.http_wire.specs.States.{SourceState}
use Rattle.upload_wire.specs.ReplyText.{reply}
use Rattle.upload_wire.specs.RequestText.{IsRequest}
use Rattle.upload_client.specs.AskText.{CanBeWritten, ask_text, is_host, wants_head}
use Rattle.wire_laws.specs.WrittenAsks.{HasLawfulParts, body_text, head_text, written_style}
use Rattle.wire_laws.specs.WrittenReplies.{IsReadOnlyAs, reply_read}

-- The ask may be written to the host, and keeps the limits of the reader.
pub record MayBeAsked (max_body : ℕ) (ask : Ask) (host : List ℕ) : Type 0 where
  pub limit : max_body < 2 ^ 64
  pub writable : CanBeWritten ask
  pub parts : HasLawfulParts ask
  pub to_host : IsTrue (is_host host)
  pub short : length (head_text ask host) ≤ max_head
  pub fits : length (body_text ask) ≤ max_body

-- The ask may be written, its values are such as its type has, and its body keeps the limit of the reader.
pub record IsWritable (max_body : ℕ) (ask : Ask) : Type 0 where
  pub can : CanBeWritten ask
  pub parts : HasLawfulParts ask
  pub fits : length (body_text ask) ≤ max_body

-- half of what a head may have
abbrev pub longest_host : ℕ
longest_host = 8192

-- one visible ASCII byte or more, and not too many for any head
pub record IsShortHost (host : List ℕ) : Type 0 where
  pub bytes : IsTrue (is_host host)
  pub short : length host ≤ longest_host

-- the size of a blob is a u64
abbrev pub HasSize : Answer → Type 0
HasSize (Blob digest size bytes) = size < 2 ^ 64
HasSize other = ⊤

-- The service may give the answer to the ask.
pub record MayAnswer (service : State) (ask : Ask) (answer : Answer) : Type 0 where
  pub lawful : IsLawful service
  pub limits : AreLawful service.limits
  pub secret : List ℕ
  pub now : ℕ
  pub after : State
  pub turn : Turn service ask secret now answer after
  pub sized : HasSize answer

-- What is written to ask is read as the ask, and what is written to answer it is heard as the answer, whatever follows.
pub record IsHeardBack (max_body : ℕ) (ask : Ask) (host : List ℕ) (answer : Answer) : Type 0 where
  pub read : IsRequest max_body (ask_text ask host) ask (written_style ask)
  pub heard : (rest : List ℕ) (new : SourceState)
      → IsReadOnlyAs (wants_head ask) (reply answer (written_style ask) ++ rest) new
      (reply_read answer (written_style ask) rest)

-- To a host that isn't too long each ask may be asked that is such as its type has: its head is short enough.
abbrev pub AsksMayBeAsked : Type 0
AsksMayBeAsked =
    (max_body : ℕ) (ask : Ask) (host : List ℕ) → max_body < 2 ^ 64 → IsWritable max_body ask → IsShortHost host
    → MayBeAsked max_body ask host

abbrev pub ExchangesAreHeard : Type 0
ExchangesAreHeard =
    (max_body : ℕ) (ask : Ask) (host : List ℕ) (service : State) (answer : Answer)
    → MayBeAsked max_body ask host → MayAnswer service ask answer → IsHeardBack max_body ask host answer
