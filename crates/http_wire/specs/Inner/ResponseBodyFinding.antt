-- What is found behind the head of a response.
use Rattle.std.specs.Prelude.{◌≡◌, ℕ, ◌<◌, ◌≤◌, List, ◌++◌, length, Result, Ok, Err, ⊤}
use Rattle.http_wire.specs.States.{InputState}
use Rattle.http_wire.specs.Reading.{Gave, HasEnded}
use Rattle.http_wire.specs.ResponseBody.{IsBody}
use Rattle.http_wire.specs.declared.responses.body.ResponseFraming.{ResponseFraming}
use Rattle.http_wire.specs.declared.responses.body.ResponseFraming.TheVariants.{Length, ToEnd}
use Rattle.http_wire.specs.declared.responses.body.ResponseBodyEnd.{ResponseBodyEnd}
use Rattle.http_wire.specs.declared.responses.body.ResponseBodyEnd.TheVariants.{Whole, TooLarge}
use Rattle.http_wire.specs.declared.fault.BodyFault.{BodyFault}
use Rattle.http_wire.specs.declared.fault.BodyFault.TheVariants as Fault

-- what a fault means to a body that goes to the end of the input
abbrev pub end_of : BodyFault → Result ResponseBodyEnd BodyFault
end_of Fault.Truncated = Ok Whole
end_of Fault.Read = Err Fault.Read
end_of Fault.NoMemory = Err Fault.NoMemory

-- what was found of a body in the text that was held behind its head and read
abbrev pub FindsBodyIn : ResponseFraming → List ℕ → List ℕ → InputState → Result ResponseBodyEnd BodyFault → Type 0
FindsBodyIn framing text body new (Ok Whole) = (text ≡ body ++ new.held) × IsBody framing body new
FindsBodyIn (Length n) text body new (Ok TooLarge) = ⊥
FindsBodyIn (ToEnd most) text body new (Ok TooLarge) = most < length text
FindsBodyIn (Length n) text body new (Err Fault.Truncated) = (length text < n) × HasEnded new.source
FindsBodyIn (ToEnd most) text body new (Err Fault.Truncated) = ⊥
FindsBodyIn (Length n) text body new (Err Fault.Read) = length text < n
FindsBodyIn (ToEnd most) text body new (Err Fault.Read) = length text ≤ most
FindsBodyIn framing text body new (Err Fault.NoMemory) = ⊤

-- some bytes were read, and this was found of a body in what was held and read
pub record FindsResponseBody
    (framing : ResponseFraming) (old new : InputState) (body : List ℕ) (r : Result ResponseBodyEnd BodyFault)
    : Type 0 where
  pub text : List ℕ
  pub gave : Gave old new.source text
  pub found : FindsBodyIn framing text body new r
