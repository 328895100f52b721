-- The bytes that names are made of.
use Rattle.std.specs.Prelude.{ℕ, ◌||◌, ◌&&◌, nat_le, Bool}

-- the letters `a` to `z` and the digits
abbrev pub is_word_byte : ℕ → Bool
is_word_byte c = (nat_le 97 c && nat_le c 122) || (nat_le 48 c && nat_le c 57)

abbrev pub hyphen : ℕ
hyphen = 45

abbrev pub dot : ℕ
dot = 46

abbrev pub slash : ℕ
slash = 47

abbrev pub underscore : ℕ
underscore = 95

-- the most bytes that a name may have
abbrev pub longest_name : ℕ
longest_name = 255
