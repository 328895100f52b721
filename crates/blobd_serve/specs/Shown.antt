-- How a log shows a method and a target.
use Rattle.std.specs.Prelude.{ℕ, ◌+◌, ◌/◌, ◌%◌, ◌==◌, ◌||◌, ◌&&◌, not, nat_lt, Bool, List, [], ◌∷◌, ◌++◌, take}
use Rattle.std.specs.Prelude.{if◌then◌else◌}
use Rattle.std.specs.Char.{is_ascii_graphic}
use Rattle.std.specs.List.{flat_map}

-- it stands for itself: visible ASCII, but for the backslash and the quote
abbrev pub is_plain : ℕ → Bool
is_plain byte = is_ascii_graphic byte && not (byte == 92 || byte == 34)

-- a hexadecimal digit in lower case
abbrev pub digit : ℕ → ℕ
digit value = if nat_lt value 10 then 48 + value else 87 + value

-- `\x` and two digits
abbrev pub escape : ℕ → List ℕ
escape byte = 92 ∷ 120 ∷ digit (byte / 16) ∷ digit (byte % 16) ∷ []

abbrev pub shown_byte : ℕ → List ℕ
shown_byte byte = if is_plain byte then byte ∷ [] else escape byte

-- a text, byte by byte, as far as a log shows it
abbrev pub shown : List ℕ → List ℕ
shown text = flat_map shown_byte (take 1000 text)

-- a method and a target, and the space between them
abbrev pub shown_request : List ℕ → List ℕ → List ℕ
shown_request method target = shown method ++ 32 ∷ shown target
