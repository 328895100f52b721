-- What a client writes is read as what it asked.
use Rattle.std.specs.Prelude.{◌≡◌, ℕ, ◌<◌, ◌≤◌, ◌^◌, true, List, ◌++◌, length, All, IfSome, IsTrue, ⊤}
use Rattle.upload_names.specs.NamePass.{is_name}
use Rattle.upload_names.specs.Digest.{IsDigest}
use Rattle.upload_names.specs.ByteRange.{IsSpan}
use Rattle.upload_service.specs.declared.ask.Ask.{Ask}
use Rattle.upload_service.specs.declared.ask.Ask.TheVariants.{Base, Has, Opening, Single, Mount, Chunk, Status, Close}
use Rattle.upload_service.specs.declared.ask.Ask.TheVariants.{Refused}
use Rattle.upload_service.specs.declared.ask.Extent.{Extent}
use Rattle.upload_service.specs.declared.ask.Extent.TheVariants.{Absent, Bad, Given}
use Rattle.http_wire.specs.Fronts.{max_head}
use Rattle.upload_wire.specs.RequestText.{IsRequest}
use Rattle.upload_client.specs.AskText.{CanBeWritten, ask_text, host_text, is_host, message_of, request_line}
use Rattle.upload_client.specs.AskText.{section_text, wants_head}
use Rattle.upload_wire.specs.declared.request.Style.{Style}

-- ---- the values that an ask is made of

-- a reference has sixteen bytes
pub record IsReference (at : List ℕ) : Type 0 where
  pub sized : length at ≡ 16
  pub bytes : All (λ b. b < 256) at

-- the numbers of a range that is given are at most 10^18
abbrev pub HasSpan : Extent → Type 0
HasSpan Absent = ⊤
HasSpan Bad = ⊤
HasSpan (Given range) = IsSpan range

-- The names, digests, references and ranges of an ask are those of their types.
abbrev pub HasLawfulParts : Ask → Type 0
HasLawfulParts Base = ⊤
HasLawfulParts (Has name digest head) = IsTrue (is_name name) × IsDigest digest
HasLawfulParts (Opening name) = IsTrue (is_name name)
HasLawfulParts (Single name digest body) = IsTrue (is_name name) × IfSome digest IsDigest
HasLawfulParts (Mount name digest source) = IsTrue (is_name name) × IsDigest digest × IsTrue (is_name source)
HasLawfulParts (Chunk name at range body) = IsTrue (is_name name) × IsReference at × HasSpan range
HasLawfulParts (Status name at) = IsTrue (is_name name) × IsReference at
HasLawfulParts (Close name at range digest body) =
    IsTrue (is_name name) × IsReference at × HasSpan range × IfSome digest IsDigest
HasLawfulParts (Refused refusal) = ⊤

-- ---- the law

-- what is written before the body
abbrev pub head_text : Ask → List ℕ → List ℕ
head_text ask host = request_line (message_of ask) ++ (host_text host ++ section_text (message_of ask).fields)

-- the bytes that follow the head
abbrev pub body_text : Ask → List ℕ
body_text ask = (message_of ask).body

-- how an ask that is written wants its reply: the connection goes on
abbrev pub written_style : Ask → Style
written_style ask = record { head = wants_head ask; keep = true }

-- An ask that may be written is read as the same ask, if its head and its body keep the limits of the reader.
abbrev pub AsksAreReadBack : Type 0
AsksAreReadBack =
    (max_body : ℕ) (ask : Ask) (host : List ℕ) → max_body < 2 ^ 64 → CanBeWritten ask → HasLawfulParts ask
    → IsTrue (is_host host)
    → length (head_text ask host) ≤ max_head → length (body_text ask) ≤ max_body
    → IsRequest max_body (ask_text ask host) ask (written_style ask)
