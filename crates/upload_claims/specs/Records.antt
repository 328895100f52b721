-- Records: the bytes of each at its address, and what bytes at an address are read as.
--
-- A record is its checksum (8 bytes), its kind (1), how many bytes its changes (4) and its body (4) have, the body's
-- checksum (8), the changes, and the body. The first checksum is that of all between it and the body.
use Rattle.std.specs.Prelude.{ℕ, zero, suc, ◌+◌, ◌<◌, ◌≤◌, ◌^◌, ◌==◌, nat_eq, nat_lt, List, [], ◌∷◌, ◌++◌, length, take}
use Rattle.std.specs.Prelude.{drop, Option, Some, None, Result, Ok, Err, if◌then◌else◌}
use Rattle.std.specs.List.{AllByRecursion}
use Rattle.std.specs.Int.{w32, w64, to_be_bytes, from_be_bytes}
use Rattle.std.specs.Hash.DefaultHasher as sip
use Rattle.std.specs.Cmp.Lexicographic.{pointwise}
use Rattle.upload_claims.specs.declared.fault.RecordFault.{RecordFault}
use Rattle.upload_claims.specs.declared.fault.RecordFault.TheVariants.{Short, NotARecord, TooLong, BadChecksum, BadBody}
use Rattle.upload_claims.specs.declared.address.Address.{Address}
use Rattle.upload_claims.specs.declared.change.Change.{Change}
use Rattle.upload_claims.specs.declared.record.Record.{Record}
use Rattle.upload_claims.specs.Fields.{◌>>=◌, Read, both, byte_at, bytes_at, number_at}
use Rattle.upload_claims.specs.Texts.{IsChange, changes_text, changes_of}

-- The checksum of bytes at an address, in two pieces: SipHash-1-3 with the journal's word as its keys, of the batch's
-- number, the record's place in it, and the bytes. No promise rests on it: other bytes may have the same.
unfoldable pub sum : Address → List ℕ → List ℕ → List ℕ
sum a front rest =
    to_be_bytes w64 (sip.finish (sip.write (sip.write (sip.write (sip.write (sip.with_keys a.journal.0 a.journal.1)
    (to_be_bytes w64 a.batch)) (to_be_bytes w64 a.index)) front) rest))

-- ---- writing

-- what stands between the checksum and the changes
abbrev pub head_text : Address → ℕ → List ℕ → List ℕ
head_text a len body = 1 ∷ (to_be_bytes w32 len ++ (to_be_bytes w32 (length body) ++ sum a [] body))

-- a record of changes with this text
abbrev pub record_with : Address → List ℕ → List ℕ → List ℕ
record_with a text body =
    sum a (head_text a (length text) body) text ++ (head_text a (length text) body ++ (text ++ body))

abbrev pub record_text : Address → List Change → List ℕ → List ℕ
record_text a changes body = record_with a (changes_text changes) body

-- the most bytes of a body that is kept in a record
abbrev pub longest_body : ℕ
longest_body = 65536

-- what has a record
pub record IsRecord (changes : List Change) (body : List ℕ) : Type 0 where
  pub lawful : AllByRecursion IsChange changes
  pub few : length changes ≤ 255
  pub sized : length (changes_text changes) < 2 ^ 32
  pub short : length body ≤ longest_body

-- ---- reading

-- a record as it is read, all but its body: its changes, where its body begins, and how many bytes that has, and which
-- checksum
pub record Found : Type 0 where
  pub changes : List Change
  pub body_at : ℕ
  pub body_len : ℕ
  pub body_sum : List ℕ

abbrev pub found_of : Record → Found
found_of r = record { changes = r.changes.items; body_at = r.body_at; body_len = r.body_len; body_sum = r.body_sum }

-- how many bytes the changes and the body have, and the body's checksum
abbrev pub Numbers : Type 0
Numbers = ℕ × (ℕ × List ℕ)

abbrev pub numbers_at : List ℕ → Read Numbers
numbers_at bytes = both (number_at w32) (both (number_at w32) (bytes_at 8)) bytes

abbrev pub numbers_if : ℕ → List ℕ → Read Numbers
numbers_if kind bytes = if kind == 1 then numbers_at bytes else Err NotARecord

-- those of a head
unfoldable pub numbers_of : List ℕ → Result Numbers RecordFault
numbers_of head = do
  kind ← byte_at head
  n ← numbers_if kind.0 kind.1
  if nat_lt longest_body n.0.1.0 then Err TooLong else Ok n.0

-- the changes of a text, if this is its checksum and that of the head before it
unfoldable pub summed : Address → List ℕ → List ℕ → List ℕ → Result (List Change) RecordFault
summed a claimed head text =
    if pointwise nat_eq claimed (sum a head text) then changes_of text else Err BadChecksum

-- a record at this address at the front of the bytes. Its body isn't looked at, and need not be there
unfoldable pub record_at : Address → List ℕ → Result Found RecordFault
record_at a bytes = do
  claimed ← bytes_at 8 bytes
  head ← bytes_at 17 claimed.1
  n ← numbers_of head.0
  text ← bytes_at n.0 head.1
  changes ← summed a claimed.0 head.0 text.0
  Ok (record { changes = changes; body_at = 25 + n.0; body_len = n.1.0; body_sum = n.1.1 })

-- the body of a record that was found at this address at the front of the bytes
unfoldable pub body_in : Address → Found → List ℕ → Result (List ℕ) RecordFault
body_in a found bytes = do
  front ← bytes_at found.body_at bytes
  body ← bytes_at found.body_len front.1
  if pointwise nat_eq found.body_sum (sum a [] body.0) then Ok body.0 else Err BadBody

-- ---- a batch

-- how many bytes a record has by its own numbers
abbrev pub claimed_span : List ℕ → ℕ
claimed_span bytes = 25 + from_be_bytes w32 (take 4 (drop 9 bytes)) + from_be_bytes w32 (take 4 (drop 13 bytes))

-- the same, if so many are there
unfoldable pub span_of : List ℕ → Option ℕ
span_of bytes =
    if nat_lt (length bytes) 25 then None
    else if nat_lt (length bytes) (claimed_span bytes) then None else Some (claimed_span bytes)

-- the changes of a record of which all is there
abbrev pub if_there : Option ℕ → Result Found RecordFault → Result (List Change) RecordFault
if_there span (Err fault) = Err fault
if_there None (Ok found) = Err Short
if_there (Some n) (Ok found) = Ok found.changes

unfoldable pub whole_at : Address → List ℕ → Result (List Change) RecordFault
whole_at a bytes = if_there (span_of bytes) (record_at a bytes)

abbrev pub next : Address → Address
next a = record a { index = a.index + 1 }

-- Behind one that doesn't tell how many bytes it has, none is found.
abbrev pub and_more : (List ℕ → List (Result (List Change) RecordFault)) → List ℕ → Option ℕ
    → List (Result (List Change) RecordFault)
and_more more bytes None = []
and_more more bytes (Some span) = more (drop span bytes)

-- what each record is read as, one after another, at most so many
abbrev pub records_within : ℕ → Address → List ℕ → List (Result (List Change) RecordFault)
records_within zero a bytes = []
records_within (suc n) a [] = []
records_within (suc n) a (b ∷ bytes) =
    whole_at a (b ∷ bytes) ∷ and_more (records_within n (next a)) (b ∷ bytes) (span_of (b ∷ bytes))

-- what each record of a batch is read as, from this address on
unfoldable pub records_in : Address → List ℕ → List (Result (List Change) RecordFault)
records_in a bytes = records_within (length bytes) a bytes
