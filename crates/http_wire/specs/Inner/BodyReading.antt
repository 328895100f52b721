-- What the functions find that read a body.
use Rattle.std.specs.Prelude.{◌≡◌, ℕ, ◌<◌, ◌≤◌, List, [], ◌++◌, length, Result, Ok, Err}
use Rattle.http_wire.specs.States.{SourceState, InputState}
use Rattle.http_wire.specs.Reading.{Gave, HasEnded}
use Rattle.http_wire.specs.declared.fault.BodyFault.{BodyFault}
use Rattle.http_wire.specs.declared.fault.BodyFault.TheVariants as Fault

-- how far the reading of a body is: the state of its input, and the body so far
pub record BodyState : Type 0 where
  pub input : InputState
  pub body : List ℕ

abbrev pub body_state : InputState → List ℕ → BodyState
body_state input body = record { input = input; body = body }

-- so many bytes were moved from the input to the end of a body
pub record Moved (old new : BodyState) (count : ℕ) : Type 0 where
  pub bytes : List ℕ
  pub gave : Gave old.input new.input.source (bytes ++ new.input.held)
  pub joined : new.body ≡ old.body ++ bytes
  pub counted : length bytes ≡ count

-- no byte was moved, if the source is left as new
pub record MovedNone (old : InputState) (new : SourceState) : Type 0 where
  pub text : List ℕ
  pub gave : Gave old new text

-- nothing was moved, and nothing is held
abbrev pub MovedNothing : BodyState → BodyState → Type 0
MovedNothing old new = Moved old new 0 × (new.input.held ≡ [])

-- all that came was moved, and it is fewer bytes than so many
pub record MovedAll (old new : BodyState) (count : ℕ) : Type 0 where
  pub moved : ℕ
  pub bytes : Moved old new moved
  pub few : moved < count
  pub none_left : new.input.held ≡ []

-- a part of what is left of a body, or nothing at the end of the input and before a failed read
abbrev pub ReadsPart : BodyState → BodyState → ℕ → Result ℕ BodyFault → Type 0
ReadsPart old new left (Ok count) = Moved old new count × (0 < count) × (count ≤ left)
ReadsPart old new left (Err Fault.Truncated) = MovedNothing old new × HasEnded new.input.source
ReadsPart old new left (Err Fault.Read) = MovedNothing old new
ReadsPart old new left (Err Fault.NoMemory) = MovedNone old.input new.input.source

-- so many bytes of a body, or all of fewer before the end of the input or a failed read
abbrev pub ReadsBytes : BodyState → BodyState → ℕ → Result (Unit {0}) BodyFault → Type 0
ReadsBytes old new count (Ok done) = Moved old new count
ReadsBytes old new count (Err Fault.Truncated) = MovedAll old new count × HasEnded new.input.source
ReadsBytes old new count (Err Fault.Read) = MovedAll old new count
ReadsBytes old new count (Err Fault.NoMemory) = MovedNone old.input new.input.source
