-- One size line, byte by byte.
use Rattle.std.specs.Prelude.{◌≡◌, ◌≢◌, ℕ, ◌^◌, ◌<◌, ◌≤◌, List, [], ◌∷◌, ◌++◌, length}
use Rattle.std.specs.Char.{is_ascii_hexdigit}
use Rattle.std.specs.Str.Parse.{digits_value}
use Rattle.httparse.specs.Ascii.{crlf_bytes, carriage_return}
use Rattle.httparse.specs.Grammar.{AllPass}
use Rattle.http_wire.specs.Body.{IsSize}
use Rattle.http_wire.specs.declared.chunked.LineState.{LineState}
use Rattle.http_wire.specs.declared.chunked.LineState.TheVariants.{Digits, Ended}
use Rattle.http_wire.specs.declared.chunked.LineStep.{LineStep}
use Rattle.http_wire.specs.declared.chunked.LineStep.TheVariants.{More, Whole, Broken}

-- at most 8 digits, and their number
pub record AreDigits (front : List ℕ) (count value : ℕ) : Type 0 where
  pub count_is : count ≡ length front
  pub few : length front ≤ 8
  pub hex : AllPass is_ascii_hexdigit front
  pub value_is : value ≡ digits_value 16 front

-- the digits of a size, with their number, and the CR behind them
pub record AreEnded (front : List ℕ) (value : ℕ) : Type 0 where
  pub digits : List ℕ
  pub cut : front ≡ digits ++ carriage_return ∷ []
  pub size : IsSize digits
  pub value_is : value ≡ digits_value 16 digits

-- what was read of a line
abbrev pub StandsAt : List ℕ → LineState → Type 0
StandsAt front (Digits count value) = AreDigits front count value
StandsAt front (Ended value) = AreEnded front value

-- the text is a size line of this number
pub record IsLine (text : List ℕ) (value : ℕ) : Type 0 where
  pub digits : List ℕ
  pub cut : text ≡ digits ++ crlf_bytes
  pub size : IsSize digits
  pub value_is : value ≡ digits_value 16 digits

-- no continuation begins with a size line
abbrev pub NeverLine : List ℕ → Type 0
NeverLine front = (more digits rest : List ℕ) → IsSize digits → front ++ more ≢ digits ++ (crlf_bytes ++ rest)

-- what one more byte makes of a line
abbrev pub StepSays : List ℕ → LineStep → Type 0
StepSays front (More state) = StandsAt front state
StepSays front (Whole size) = IsLine front size
StepSays front Broken = NeverLine front

-- the numbers are small
abbrev pub IsBounded : LineState → Type 0
IsBounded (Digits count value) = (count ≤ 8) × (value < 2 ^ 32)
IsBounded (Ended value) = value < 2 ^ 32
