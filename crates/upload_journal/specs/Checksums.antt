-- The checksum behind an entry, by which damage to it is found. No promise rests on it: two texts may have the same.
use Rattle.std.specs.Prelude.{◌-◌, ℕ, ◌++◌, nat_eq, nat_lt, List, length, take, drop, Result, Ok, Err, if◌then◌else◌}
use Rattle.std.specs.Int.{w64, to_be_bytes}
use Rattle.std.specs.Hash.DefaultHasher as sip
use Rattle.std.specs.Cmp.Lexicographic.{pointwise}
use Rattle.upload_journal.specs.declared.fault.EntryFault.{EntryFault}
use Rattle.upload_journal.specs.declared.fault.EntryFault.TheVariants.{Short, BadChecksum}

-- SipHash-1-3 with both keys 0, the highest byte first
unfoldable pub checksum : List ℕ → List ℕ
checksum text = to_be_bytes w64 (sip.finish (sip.write sip.initial text))

-- a text, and its checksum behind it
abbrev pub with_checksum : List ℕ → List ℕ
with_checksum text = text ++ checksum text

-- all but the last eight bytes, and these
abbrev pub front_of : List ℕ → List ℕ
front_of bytes = take (length bytes - 8) bytes

abbrev pub sum_of : List ℕ → List ℕ
sum_of bytes = drop (length bytes - 8) bytes

-- the text that has its checksum behind it
unfoldable pub checked : List ℕ → Result (List ℕ) EntryFault
checked bytes =
    if nat_lt (length bytes) 8 then Err Short
    else if pointwise nat_eq (sum_of bytes) (checksum (front_of bytes)) then Ok (front_of bytes)
    else Err BadChecksum

-- the text before a checksum that may be another's
unfoldable pub unchecked : List ℕ → Result (List ℕ) EntryFault
unchecked bytes = if nat_lt (length bytes) 8 then Err Short else Ok (front_of bytes)
