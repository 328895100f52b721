-- What the bytes of a file stand for.
use Rattle.std.specs.Prelude.{◌≡◌, ◌≢◌, ◌⊎◌, ℕ, zero, suc, ◌+◌, ◌*◌, ◌/◌, ◌%◌, ◌<◌, ◌≤◌, ◌^◌, ◌==◌, nat_le, ◌&&◌}
use Rattle.std.specs.Prelude.{if◌then◌else◌, List, [], ◌∷◌, ◌++◌, length, take, drop, slice_index, Option, Some, None}
use Rattle.std.specs.Prelude.{Bool, true, false, ◌||◌}
use Rattle.std.specs.List.{flat_map, All}
use Rattle.std.specs.Int.{w64, to_be_bytes, from_be_bytes}
use Rattle.std.specs.Hash.DefaultHasher as sip

-- what a device writes at once: nothing that is written shares one with anything else
abbrev pub sector : ℕ
sector = 4096

-- so many bytes, rounded up to whole sectors
unfoldable pub whole : ℕ → ℕ
whole n = (n + 4095) / 4096 * 4096

-- a number in eight bytes, the highest first
unfoldable pub number_bytes : ℕ → List ℕ
number_bytes n = to_be_bytes w64 n

unfoldable pub number_of : List ℕ → ℕ
number_of bytes = from_be_bytes w64 bytes

-- a record: its length, and its bytes
abbrev pub block : List ℕ → List ℕ
block bytes = number_bytes (length bytes) ++ bytes

abbrev pub blocks : List (List ℕ) → List ℕ
blocks records = flat_map block records

-- the length fits its eight bytes
abbrev pub IsShort : List ℕ → Type 0
IsShort bytes = length bytes < 2 ^ 64

abbrev pub AreShort : List (List ℕ) → Type 0
AreShort records = All IsShort records

-- the first record, and what follows it. Bytes that don't have all of a record were never written so: they stand for
-- themselves, so that whoever reads records finds one that is damaged
unfoldable pub first : List ℕ → Option (List ℕ × List ℕ)
first bytes =
    if nat_le (8 + number_of (take 8 bytes)) (length bytes) then
    Some (take (number_of (take 8 bytes)) (drop 8 bytes), drop (8 + number_of (take 8 bytes)) bytes) else
    if nat_le 1 (length bytes) then Some (bytes, []) else None

-- a record, and then what the rest stands for
abbrev pub and_more : (List ℕ → List (List ℕ)) → Option (List ℕ × List ℕ) → List (List ℕ)
and_more rest None = []
and_more rest (Some found) = found.0 ∷ rest found.1

-- one record after another, at most so many
abbrev pub records_within : ℕ → List ℕ → List (List ℕ)
records_within zero bytes = []
records_within (suc n) bytes = and_more (records_within n) (first bytes)

-- the records of a batch, one after another
unfoldable pub records : List ℕ → List (List ℕ)
records bytes = records_within (length bytes) bytes

-- a batch as it is kept: the time of day at which it was added, in seconds since 1970, and its records
abbrev pub Kept : Type 0
Kept = ℕ × List (List ℕ)

-- the checksum of a head's numbers: SipHash-1-3 with both keys 0
unfoldable pub sum_of : List ℕ → ℕ
sum_of numbers = sip.finish (sip.write sip.initial numbers) % 2 ^ 64

abbrev pub numbers : ℕ → ℕ → ℕ → List ℕ
numbers number time len = number_bytes number ++ (number_bytes time ++ number_bytes len)

-- before the records of a batch: its place in the list, its time, how many bytes its records take, and the checksum of
-- these, by which it is found if one of them has changed
abbrev pub head : ℕ → ℕ → ℕ → List ℕ
head number time len = numbers number time len ++ number_bytes (sum_of (numbers number time len))

abbrev pub number_in : List ℕ → ℕ
number_in bytes = number_of (take 8 bytes)

abbrev pub time_in : List ℕ → ℕ
time_in bytes = number_of (take 8 (drop 8 bytes))

abbrev pub length_in : List ℕ → ℕ
length_in bytes = number_of (take 8 (drop 16 bytes))

abbrev pub sum_in : List ℕ → ℕ
sum_in bytes = number_of (take 8 (drop 24 bytes))

-- that of the numbers here
abbrev pub sum_here : List ℕ → ℕ
sum_here bytes = sum_of (take 24 bytes)

-- how far a batch goes: its head and its records, in whole sectors
abbrev pub span : List ℕ → ℕ
span bytes = whole (32 + length_in bytes)

-- what stands behind the gate's sector: the batch with this number, and what follows it, if its head is whole and all
-- of it is there
unfoldable pub behind : ℕ → List ℕ → Option (Kept × List ℕ)
behind number bytes =
    if (number_in bytes == number) && ((sum_in bytes == sum_here bytes) && nat_le (span bytes) (length bytes)) then
    Some ((time_in bytes, records (take (length_in bytes) (drop 32 bytes))), drop (span bytes) bytes) else None

-- the first batch, if its gate is open: the first byte of its sector is 1
unfoldable pub next : ℕ → List ℕ → Option (Kept × List ℕ)
next number bytes = if slice_index bytes 0 == 1 then behind number (drop sector bytes) else None

-- a batch, and then what the rest stands for
abbrev pub with_more : (List ℕ → List Kept) → Option (Kept × List ℕ) → List Kept
with_more rest None = []
with_more rest (Some found) = found.0 ∷ rest found.1

-- one batch after another by such a step, numbered from here, at most so many
abbrev pub one_by_one : (ℕ → List ℕ → Option (Kept × List ℕ)) → ℕ → ℕ → List ℕ → List Kept
one_by_one step zero number bytes = []
one_by_one step (suc n) number bytes = with_more (one_by_one step n (number + 1)) (step number bytes)

-- the batches from this number on: those up to the first gate that is shut, or that has not the whole next batch behind
-- it
unfoldable pub batches : ℕ → List ℕ → List Kept
batches number bytes = one_by_one next (length bytes) number bytes

-- the batch with this number behind a gate, whether the gate is open or shut
abbrev pub staged : ℕ → List ℕ → Option (Kept × List ℕ)
staged number bytes = behind number (drop sector bytes)

-- the batches that a file stands for, whatever a crash made of it; its first sector is the first line
abbrev pub stored : List ℕ → List Kept
stored file = batches 0 (drop sector file)

-- a batch without records marks that others were lost before it
abbrev pub is_mark : Kept → Bool
is_mark (time, []) = true
is_mark (time, bytes ∷ records) = false

abbrev pub has_mark : List Kept → Bool
has_mark [] = false
has_mark (kept ∷ all) = is_mark kept || has_mark all

-- these bytes are these batches, numbered from here: whatever follows them, they come first
abbrev pub Lie : ℕ → List ℕ → List Kept → Type 0
Lie number bytes all = (more : List ℕ) → batches number (bytes ++ more) ≡ all ++ batches (number + length all) more

-- the file is the first line and these batches, which end here, and then a shut gate; it is at least so long
pub record Rests (line : List ℕ) (all : List Kept) (end len : ℕ) (file : List ℕ) : Type 0 where
  pub front : take sector file ≡ line
  pub begins : sector ≤ end
  pub lie : Lie 0 (drop sector (take end file)) all
  pub within : end < len
  pub there : len ≤ length file
  pub shut : slice_index file end ≢ 1

-- the file stands for these batches, with the one that was added or without it
abbrev pub IsBeforeOrAfter : List Kept → Kept → List ℕ → Type 0
IsBeforeOrAfter old added file = (stored file ≡ old) ⊎ (stored file ≡ old ++ added ∷ [])
