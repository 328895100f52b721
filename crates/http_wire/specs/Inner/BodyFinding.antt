-- What is found behind a head.
use Rattle.std.specs.Prelude.{ℕ, List, ◌++◌, Result, Ok, Err}
use Rattle.http_wire.specs.States.{SourceState, InputState}
use Rattle.http_wire.specs.Reading.{Gave, HasEnded}
use Rattle.http_wire.specs.Inner.BodyReading.{MovedNone}
use Rattle.http_wire.specs.Body.{IsBodyText, IsBadBody, IsCutBody}
use Rattle.http_wire.specs.declared.body.Framing.{Framing}
use Rattle.http_wire.specs.declared.body.BodyEnd.{BodyEnd}
use Rattle.http_wire.specs.declared.body.BodyEnd.TheVariants.{Whole, Refused}
use Rattle.http_wire.specs.declared.fault.Bad.{Bad}
use Rattle.http_wire.specs.declared.fault.BodyFault.{BodyFault}
use Rattle.http_wire.specs.declared.fault.BodyFault.TheVariants as Fault

-- a whole body was taken
pub record TakesBody (framing : Framing) (old new : InputState) (body : List ℕ) : Type 0 where
  pub text : List ℕ
  pub gave : Gave old new.source (text ++ new.held)
  pub written : IsBodyText framing text body

-- what came is refused as a body, if the source is left as new
pub record RefusesBodyText (framing : Framing) (old : InputState) (new : SourceState) (why : Bad) : Type 0 where
  pub text : List ℕ
  pub gave : Gave old new text
  pub bad : IsBadBody framing text why

-- what came is a prefix of a body
pub record CutsBody (framing : Framing) (old : InputState) (new : SourceState) : Type 0 where
  pub text : List ℕ
  pub gave : Gave old new text
  pub cut : IsCutBody framing text

abbrev pub FindsBody : Framing → InputState → InputState → List ℕ → Result BodyEnd BodyFault → Type 0
FindsBody framing old new body (Ok Whole) = TakesBody framing old new body
FindsBody framing old new body (Ok (Refused why)) = RefusesBodyText framing old new.source why
FindsBody framing old new body (Err Fault.Truncated) = CutsBody framing old new.source × HasEnded new.source
FindsBody framing old new body (Err Fault.Read) = CutsBody framing old new.source
FindsBody framing old new body (Err Fault.NoMemory) = MovedNone old new.source
