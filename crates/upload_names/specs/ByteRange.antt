-- The ranges of chunks (OCI Distribution Specification 1.1, section "Pushing a blob in chunks", Content-Range):
-- a first and a last position, both in the range.
use Rattle.std.specs.Prelude.{◌≡◌, ℕ, ◌+◌, ◌-◌, ◌<◌, ◌≤◌, ◌^◌, ◌==◌, ◌&&◌, min, nat_lt, Bool, List, ◌∷◌, ◌++◌, length}
use Rattle.std.specs.Prelude.{take, drop, position, Option, Some, None, option_and_then, if◌then◌else◌, IsTrue}
use Rattle.std.specs.List.{list_all}
use Rattle.std.specs.Char.{is_ascii_digit}
use Rattle.std.specs.Str.Parse.{digits_value}

pub record Span : Type 0 where
  pub first : ℕ
  pub last : ℕ

-- the largest number that a range keeps
abbrev pub range_cap : ℕ
range_cap = 10 ^ 18

abbrev pub IsSpan : Span → Type 0
IsSpan span = (span.first ≤ range_cap) × (span.last ≤ range_cap)

-- how many positions a range has, or None if its last is before its first
abbrev pub span_length : Span → Option ℕ
span_length span = if nat_lt span.last span.first then None else Some (span.last - span.first + 1)

-- one or more decimal digits
pub record IsNumeral (text : List ℕ) : Type 0 where
  pub filled : 0 < length text
  pub digits : IsTrue (list_all is_ascii_digit text)

-- the number that digits spell, or the largest that a range keeps if they spell a larger one
abbrev pub capped_value : List ℕ → ℕ
capped_value digits = min (digits_value 10 digits) range_cap

abbrev pub minus : ℕ
minus = 45

-- The text spells the range: digits, a hyphen, digits.
pub record SpellsRange (text : List ℕ) (span : Span) : Type 0 where
  pub first : List ℕ
  pub last : List ℕ
  pub is_first : IsNumeral first
  pub is_last : IsNumeral last
  pub cut : text ≡ first ++ minus ∷ last
  pub spelled_first : span.first ≡ capped_value first
  pub spelled_last : span.last ≡ capped_value last

abbrev pub is_numeral : List ℕ → Bool
is_numeral text = nat_lt 0 (length text) && list_all is_ascii_digit text

abbrev pub is_minus : ℕ → Bool
is_minus c = c == minus

-- the number that a numeral spells, if the text is one
abbrev pub numeral_value : List ℕ → Option ℕ
numeral_value text = if is_numeral text then Some (capped_value text) else None

abbrev pub span_of : Option ℕ → Option ℕ → Option Span
span_of None last = None
span_of (Some first) None = None
span_of (Some first) (Some last) = Some (record { first = first; last = last })

-- the numerals on both sides of a place
abbrev pub span_round : List ℕ → ℕ → Option Span
span_round text place = span_of (numeral_value (take place text)) (numeral_value (drop (place + 1) text))

-- the range that a text spells, if it spells one: it is cut at its first hyphen
unfoldable pub range_of : List ℕ → Option Span
range_of text = option_and_then (span_round text) (position is_minus text)
