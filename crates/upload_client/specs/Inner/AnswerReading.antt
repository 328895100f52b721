-- What the functions find that read a reply.
use Rattle.std.specs.Prelude.{◌≡◌, ℕ, Bool, List, Option, Result, Ok, Err, ⊤}
use Rattle.http_wire.specs.Fields.{Fields}
use Rattle.http_wire.specs.States.{InputState}
use Rattle.upload_client.specs.AnswerText.{IsHeard, IsMisplaced, IsPlaceOf, ReadsAnswer, location, range, upto_of}
use Rattle.http_wire.specs.declared.responses.body.FramingFault.{FramingFault}
use Rattle.http_wire.specs.declared.responses.body.FramingFault.TheVariants as Framing
use Rattle.upload_client.specs.declared.answer.ReplyRead.{ReplyRead}
use Rattle.upload_client.specs.declared.heard.Heard.{Heard}
use Rattle.upload_client.specs.declared.heard.SaidFault.{SaidFault}
use Rattle.upload_client.specs.declared.heard.SaidFault.TheVariants as Said
use Rattle.upload_client.specs.declared.heard.HeardFault.{HeardFault}
use Rattle.upload_client.specs.declared.heard.HeardFault.TheVariants as Fault
use Rattle.http_wire.specs.declared.fault.InputFault.{InputFault}
use Rattle.http_wire.specs.declared.fault.InputFault.TheVariants as Input
use Rattle.http_wire.specs.declared.fault.BodyFault.{BodyFault}
use Rattle.http_wire.specs.declared.fault.BodyFault.TheVariants as Body

-- ---- a reply

-- A reply was read: what is heard in it, and whether it keeps the connection; behind a fault nothing is said of that.
abbrev pub FindsReply : Bool → InputState → InputState → Result ReplyRead HeardFault → Type 0
FindsReply head_only old new (Ok reply) = ReadsAnswer head_only old new (Ok reply.heard) reply.keep
FindsReply head_only old new (Err fault) = (keep : Bool) → ReadsAnswer head_only old new (Err fault) keep

-- ---- what it says

-- the fault of a reply that a fault of its head is, or one of its body
abbrev pub heard_of_input : InputFault → HeardFault
heard_of_input Input.Truncated = Fault.Truncated
heard_of_input Input.Read = Fault.Read

abbrev pub heard_of_body : BodyFault → HeardFault
heard_of_body Body.Truncated = Fault.Truncated
heard_of_body Body.Read = Fault.Read
heard_of_body Body.NoMemory = Fault.NoMemory

-- or one of its framing
abbrev pub heard_of_framing : FramingFault → HeardFault
heard_of_framing Framing.Unreadable = Fault.Unreadable
heard_of_framing Framing.TooLarge = Fault.TooLarge

-- or one of what it says
abbrev pub heard_of_said : SaidFault → HeardFault
heard_of_said Said.Unreadable = Fault.Unreadable
heard_of_said Said.NoMemory = Fault.NoMemory

-- the path that was read, or the refusal of the value, unless memory was refused
abbrev pub PlaceUnlessNoMemory : Option (List ℕ) → Result (Option (List ℕ)) SaidFault → Type 0
PlaceUnlessNoMemory value (Ok place) = IsPlaceOf value (Ok place)
PlaceUnlessNoMemory value (Err Said.Unreadable) = IsPlaceOf value (Err Said.Unreadable)
PlaceUnlessNoMemory value (Err Said.NoMemory) = ⊤

-- what a reply says: what is heard, or that a Location or a Range is unreadable
abbrev pub Says : ℕ → Fields → List ℕ → Result Heard SaidFault → Type 0
Says status fields body (Ok heard) = IsHeard status fields body heard
Says status fields body (Err Said.Unreadable) = IsMisplaced fields
Says status fields body (Err Said.NoMemory) = ⊤

-- what a head says, with no code: what is heard, or that a Location or a Range is unreadable
pub record IsHeardBare (status : ℕ) (fields : Fields) (heard : Heard) : Type 0 where
  pub status_is : heard.status ≡ status
  pub place_is : IsPlaceOf (location fields) (Ok heard.place)
  pub upto_is : upto_of (range fields) ≡ Ok heard.upto

abbrev pub SaysBare : ℕ → Fields → Result Heard SaidFault → Type 0
SaysBare status fields (Ok heard) = IsHeardBare status fields heard
SaysBare status fields (Err Said.Unreadable) = IsMisplaced fields
SaysBare status fields (Err Said.NoMemory) = ⊤
