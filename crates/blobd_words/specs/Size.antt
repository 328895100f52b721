-- Sizes as they are written on the command line.
use Rattle.std.specs.Prelude.{◌≡◌, ℕ, ◌*◌, ◌-◌, ◌^◌, ◌<◌, ◌≤◌, ◌==◌, ◌&&◌, nat_lt, Bool, List, length, take}
use Rattle.std.specs.Prelude.{slice_index, if◌then◌else◌}
use Rattle.std.specs.Str.Parse.{IsNumeral, digits_value}

-- how many bytes the unit of a letter has: K, M, G; what is no letter of a unit counts single bytes
abbrev pub bytes_in : ℕ → ℕ
bytes_in letter =
    if letter == 75 then 1024
    else if letter == 77 then 1048576
    else if letter == 71 then 1073741824
    else 1

-- the unit that a word ends with
abbrev pub unit_of : List ℕ → ℕ
unit_of word = bytes_in (slice_index word (length word - 1))

-- what stands before it
abbrev pub digits_of : List ℕ → List ℕ
digits_of word = if unit_of word == 1 then word else take (length word - 1) word

-- one or more decimal digits, which write a number below 2^64
abbrev pub IsNumber : List ℕ → ℕ → Type 0
IsNumber digits number = IsNumeral 10 digits × (digits_value 10 digits ≡ number) × (number < 2 ^ 64)

-- decimal digits and a unit, which write a size from 1 to so many bytes
abbrev pub WritesAtMost : ℕ → List ℕ → ℕ → Type 0
WritesAtMost most word size =
    IsNumeral 10 (digits_of word) × (digits_value 10 (digits_of word) * unit_of word ≡ size) × (1 ≤ size)
    × (size ≤ most)

-- a size from 1 to 2,147,483,648 bytes
abbrev pub WritesSize : List ℕ → ℕ → Type 0
WritesSize = WritesAtMost 2147483648

-- a file of more than 4 MiB goes up slowly in chunks below 64 KiB
abbrev pub is_slow : ℕ → ℕ → Bool
is_slow chunk size = nat_lt chunk 65536 && nat_lt 4194304 size
