-- A reply as a text: its head, its body, and what a client hears in them.
use Rattle.std.specs.Prelude.{◌≡◌, ℕ, ◌+◌, ◌<◌, ◌≤◌, ◌⊎◌, Bool, ◌==◌, List, ◌++◌, length, codes, Option, Some, None}
use Rattle.std.specs.Prelude.{option_and_then, if◌then◌else◌, Result, Ok, Err, ⊤}
use Rattle.std.specs.Str.{is_utf8}
use Rattle.httparse.specs.Grammar.{ResponseHead, status_code}
use Rattle.http_uri.specs.declared.uri.Uri.{Uri}
use Rattle.http_uri.specs.Uri.{Spells, SpellsNone, uri_path}
use Rattle.serde_json.specs.Data.{Data}
use Rattle.serde_json.specs.Read.{read}
use Rattle.serde_json.specs.Find.{get, at, as_str}
use Rattle.upload_names.specs.ByteRange.{Span, range_of}
use Rattle.http_wire.specs.States.{InputState}
use Rattle.http_wire.specs.Reading.{Gives, HasEnded}
use Rattle.http_wire.specs.Fields.{Fields, first_of, values_of, head_fields}
use Rattle.http_wire.specs.ResponseBody.{IsBody, response_framing_of, keeps_on}
use Rattle.http_wire.specs.Fronts.{IsRefused, IsTooLong, IsUnfinished, ReadsHead, responses}
use Rattle.http_wire.specs.declared.responses.body.ResponseFraming.{ResponseFraming}
use Rattle.http_wire.specs.declared.responses.body.ResponseFraming.TheVariants.{Length, ToEnd}
use Rattle.http_wire.specs.declared.responses.body.FramingFault.{FramingFault}
use Rattle.http_wire.specs.declared.responses.body.FramingFault.TheVariants as Framing
use Rattle.upload_client.specs.declared.heard.Heard.{Heard}
use Rattle.upload_client.specs.declared.heard.SaidFault.{SaidFault}
use Rattle.upload_client.specs.declared.heard.SaidFault.TheVariants as Said
use Rattle.upload_client.specs.declared.heard.HeardFault.{HeardFault}
use Rattle.upload_client.specs.declared.heard.HeardFault.TheVariants as Fault

-- the most bytes of a reply's body
abbrev pub max_answer : ℕ
max_answer = 65536

-- ---- what is heard

-- the path of a Location, in origin form or in absolute form
abbrev pub IsPlaceOf : Option (List ℕ) → Result (Option (List ℕ)) SaidFault → Type 0
IsPlaceOf None r = r ≡ Ok None
IsPlaceOf (Some value) (Ok place) = (uri : Uri) × Spells value uri × (place ≡ Some (uri_path uri))
IsPlaceOf (Some value) (Err e) = (e ≡ Said.Unreadable) × SpellsNone value

-- the last position of a range that begins at 0
abbrev pub last_from_zero : Option Span → Result (Option ℕ) SaidFault
last_from_zero None = Err Said.Unreadable
last_from_zero (Some range) = if range.first == 0 then Ok (Some range.last) else Err Said.Unreadable

-- the last position of a Range
abbrev pub upto_of : Option (List ℕ) → Result (Option ℕ) SaidFault
upto_of None = Ok None
upto_of (Some value) = last_from_zero (range_of value)

-- the `code` of the first item of `errors`
abbrev pub code_in : Data → Option (List ℕ)
code_in d =
    option_and_then as_str (option_and_then (get (codes "code")) (option_and_then (at 0) (get (codes "errors") d)))

-- the first error code of a body, if it is JSON
abbrev pub code_of : List ℕ → Option (List ℕ)
code_of body = if is_utf8 body then option_and_then code_in (read body) else None

abbrev pub location : Fields → Option (List ℕ)
location fields = first_of (values_of (codes "location") fields)

abbrev pub range : Fields → Option (List ℕ)
range fields = first_of (values_of (codes "range") fields)

-- what is heard in a head and a body
pub record IsHeard (status : ℕ) (fields : Fields) (body : List ℕ) (heard : Heard) : Type 0 where
  pub status_is : heard.status ≡ status
  pub place_is : IsPlaceOf (location fields) (Ok heard.place)
  pub upto_is : upto_of (range fields) ≡ Ok heard.upto
  pub code_is : heard.code ≡ code_of body

-- the Location or the Range is unreadable
abbrev pub IsMisplaced : Fields → Type 0
IsMisplaced fields =
    IsPlaceOf (location fields) (Err Said.Unreadable) ⊎ (upto_of (range fields) ≡ Err Said.Unreadable)

-- ---- replies

-- the text begins with a head whose body goes so far, and then comes rest
pub record ReadsFramed
    (head_only : Bool) (text : List ℕ) (framing : Result ResponseFraming FramingFault)
    (head : ResponseHead) (rest : List ℕ)
    : Type 0 where
  pub reads : ReadsHead responses text head rest
  pub framed : response_framing_of max_answer head_only (status_code head) (head_fields head.fields) ≡ framing

-- a whole reply, and then what the input holds
pub record IsWhole (head_only : Bool) (text : List ℕ) (new : InputState) (head : ResponseHead)
    (body : List ℕ) : Type 0 where
  pub framing : ResponseFraming
  pub framed : ReadsFramed head_only text (Ok framing) head (body ++ new.held)
  pub is_body : IsBody framing body new

-- a reply of which this is heard, and which keeps the connection or doesn't
pub record TellsHeard (head_only : Bool) (text : List ℕ) (new : InputState) (heard : Heard) (keep : Bool) : Type 0 where
  pub head : ResponseHead
  pub body : List ℕ
  pub whole : IsWhole head_only text new head body
  pub says : IsHeard (status_code head) (head_fields head.fields) body heard
  pub keeps : keep ≡ keeps_on head.minor (head_fields head.fields) whole.framing

-- a reply whose Location or Range is unreadable
pub record TellsMisplaced (head_only : Bool) (text : List ℕ) (new : InputState) : Type 0 where
  pub head : ResponseHead
  pub body : List ℕ
  pub whole : IsWhole head_only text new head body
  pub misplaced : IsMisplaced (head_fields head.fields)

-- a head whose framing is this fault
pub record HasFramingFault (head_only : Bool) (text : List ℕ) (fault : FramingFault) : Type 0 where
  pub head : ResponseHead
  pub rest : List ℕ
  pub framed : ReadsFramed head_only text (Err fault) head rest

-- a body that goes to the end of the input, and is over the limit
pub record HasLongBody (head_only : Bool) (text : List ℕ) : Type 0 where
  pub head : ResponseHead
  pub rest : List ℕ
  pub most : ℕ
  pub framed : ReadsFramed head_only text (Ok (ToEnd most)) head rest
  pub long : most < length rest

-- the text ends inside a body
pub record HasCutReplyBody (head_only : Bool) (text : List ℕ) : Type 0 where
  pub head : ResponseHead
  pub rest : List ℕ
  pub size : ℕ
  pub framed : ReadsFramed head_only text (Ok (Length size)) head rest
  pub cut : length rest < size

-- the text ends inside a body that goes to the end of the input, and is not over the limit
pub record HasOpenBody (head_only : Bool) (text : List ℕ) : Type 0 where
  pub head : ResponseHead
  pub rest : List ℕ
  pub most : ℕ
  pub framed : ReadsFramed head_only text (Ok (ToEnd most)) head rest
  pub small : length rest ≤ most

-- the text holds no whole reply: it has no head yet, or ends inside a body
abbrev pub HoldsNoReply : Bool → List ℕ → Type 0
HoldsNoReply head_only text =
    IsUnfinished responses text ⊎ (HasCutReplyBody head_only text ⊎ HasOpenBody head_only text)

-- What was found in the text, if the reader's input is left as new. Behind a fault nothing is said of whether the
-- connection stays.
abbrev pub FindsAnswer : Bool → List ℕ → InputState → Result Heard HeardFault → Bool → Type 0
FindsAnswer head_only text new (Ok heard) keep = TellsHeard head_only text new heard keep
FindsAnswer head_only text new (Err Fault.Unreadable) keep =
    IsRefused responses text
    ⊎ (HasFramingFault head_only text Framing.Unreadable ⊎ TellsMisplaced head_only text new)
FindsAnswer head_only text new (Err Fault.TooLarge) keep =
    IsTooLong responses text ⊎ (HasFramingFault head_only text Framing.TooLarge ⊎ HasLongBody head_only text)
FindsAnswer head_only text new (Err Fault.Truncated) keep =
    HasEnded new.source × (IsUnfinished responses text ⊎ HasCutReplyBody head_only text)
FindsAnswer head_only text new (Err Fault.Read) keep = HoldsNoReply head_only text
FindsAnswer head_only text new (Err Fault.NoMemory) keep = ⊤
FindsAnswer head_only text new (Err Fault.Ended) keep = ⊥

-- so many bytes were read, and this was found in what was held and read
pub record ReadsAnswer
    (head_only : Bool) (old new : InputState) (r : Result Heard HeardFault) (keep : Bool) : Type 0 where
  pub given : List ℕ
  pub gives : Gives old.source new.source given
  pub found : FindsAnswer head_only (old.held ++ given) new r keep

-- what contracts see of a reader of replies: its input, whether a fault ended the reading, and whether the connection
-- stays after the reply that was read last
pub record AnswerReaderState : Type 0 where
  pub input : InputState
  pub ended : Bool
  pub keep : Bool

-- the most reads of one reply: its head and its body, one byte each
abbrev pub most_answer_reads : ℕ
most_answer_reads = 16384 + 65537
