-- The fields of a record: how each is written, which values have a text, and what is read from the front of a list of
-- bytes. Numbers have a fixed width, the highest byte first; a text has its length before it.
use Rattle.std.specs.Prelude.{ℕ, ◌<◌, ◌^◌, ◌==◌, ◌≡◌, nat_lt, List, [], ◌∷◌, ◌++◌, length, take, drop}
use Rattle.std.specs.Prelude.{Option, Some, None, Result, Ok, Err, if◌then◌else◌}
use Rattle.std.specs.Int.{Width, w32, w64, byte_len, from_be_bytes, to_be_bytes}
use Rattle.upload_names.specs.NamePass.{is_name}
use Rattle.upload_names.specs.Digest.{Digest, digest_of}
use Rattle.upload_claims.specs.declared.fault.RecordFault.{RecordFault}
use Rattle.upload_claims.specs.declared.fault.RecordFault.TheVariants.{Short, BadName, BadDigest, BadPlace}
use Rattle.upload_claims.specs.declared.fault.ReadError.{ReadError}
use Rattle.upload_claims.specs.declared.fault.ReadError.TheVariants as errors
use Rattle.upload_claims.specs.declared.change.Place.{Place}
use Rattle.upload_claims.specs.declared.change.Place.TheVariants as places
use Rattle.upload_claims.specs.declared.change.Stretch.{Stretch}

-- ---- reading

infixl 10 ◌>>=◌
abbrev pub ◌>>=◌ : {A B : Type 0} → Result A RecordFault → (A → Result B RecordFault) → Result B RecordFault
(Ok x) >>= f = f x
(Err e) >>= f = Err e

-- a value, and the bytes after it
abbrev pub Read : Type 0 → Type 0
Read A = Result (A × List ℕ) RecordFault

-- what a function returned, seen by view, is what is read, unless memory ran out
abbrev pub Fails : {Y : Type 0} → ReadError → Result Y RecordFault → Type 0
Fails errors.NoMemory read = Unit {0}
Fails (errors.Fault fault) read = read ≡ Err fault

abbrev pub Gives : {X Y : Type 0} → (X → Y) → Result X ReadError → Result Y RecordFault → Type 0
Gives view (Ok x) read = read ≡ Ok (view x)
Gives view (Err e) read = Fails e read

-- one value after another
abbrev pub both : {A B : Type 0} → (List ℕ → Read A) → (List ℕ → Read B) → List ℕ → Read (A × B)
both first second bytes = do
  x ← first bytes
  y ← second x.1
  Ok ((x.0, y.0), y.1)

-- what a value is made into
abbrev pub made : {A B : Type 0} → (A → B) → (List ℕ → Read A) → List ℕ → Read B
made make first bytes = do
  x ← first bytes
  Ok (make x.0, x.1)

abbrev pub or_fault : {B : Type 0} → RecordFault → List ℕ → Option B → Read B
or_fault fault rest (Some y) = Ok (y, rest)
or_fault fault rest None = Err fault

-- what a value is made into, if it is lawful
abbrev pub tested : {A B : Type 0} → (A → Option B) → RecordFault → (List ℕ → Read A) → List ℕ → Read B
tested test fault first bytes = do
  x ← first bytes
  or_fault fault x.1 (test x.0)

-- ---- numbers and texts

-- this many bytes
unfoldable pub bytes_at : ℕ → List ℕ → Read (List ℕ)
bytes_at n bytes = if nat_lt (length bytes) n then Err Short else Ok (take n bytes, drop n bytes)

abbrev pub byte_at : List ℕ → Read ℕ
byte_at [] = Err Short
byte_at (b ∷ rest) = Ok (b, rest)

unfoldable pub number_at : Width → List ℕ → Read ℕ
number_at w bytes = made (from_be_bytes w) (bytes_at (byte_len w)) bytes

-- four bytes of length, and that many bytes
abbrev pub measured : List ℕ → List ℕ
measured text = to_be_bytes w32 (length text) ++ text

abbrev pub IsMeasured : List ℕ → Type 0
IsMeasured text = length text < 2 ^ 32

unfoldable pub text_at : List ℕ → Read (List ℕ)
text_at bytes = do
  n ← number_at w32 bytes
  bytes_at n.0 n.1

-- ---- names and digests, each by its text, and references, each by its sixteen bytes

abbrev pub name_of : List ℕ → Option (List ℕ)
name_of text = if is_name text then Some text else None

unfoldable pub name_at : List ℕ → Read (List ℕ)
name_at bytes = tested name_of BadName text_at bytes

unfoldable pub digest_at : List ℕ → Read Digest
digest_at bytes = tested digest_of BadDigest text_at bytes

abbrev pub IsReference : List ℕ → Type 0
IsReference at = length at ≡ 16

abbrev pub reference_at : List ℕ → Read (List ℕ)
reference_at bytes = bytes_at 16 bytes

-- ---- stretches

-- where a body is, by a mark and a number, and its end
abbrev pub stretch_by : ℕ → ℕ → ℕ → List ℕ
stretch_by mark number end = mark ∷ (to_be_bytes w64 number ++ to_be_bytes w64 end)

abbrev pub placed_text : Place → ℕ → List ℕ
placed_text (places.Record number) end = stretch_by 0 number end
placed_text (places.File number) end = stretch_by 1 number end

abbrev pub stretch_text : Stretch → List ℕ
stretch_text s = placed_text s.place s.end

abbrev pub IsPlaced : Place → ℕ → Type 0
IsPlaced (places.Record number) end = (number < 2 ^ 64) × (end < 2 ^ 64)
IsPlaced (places.File number) end = (number < 2 ^ 64) × (end < 2 ^ 64)

abbrev pub IsStretch : Stretch → Type 0
IsStretch s = IsPlaced s.place s.end

abbrev pub in_record : ℕ × ℕ → Stretch
in_record p = record { place = places.Record p.0; end = p.1 }

abbrev pub in_file : ℕ × ℕ → Stretch
in_file p = record { place = places.File p.0; end = p.1 }

unfoldable pub stretch_at : List ℕ → Read Stretch
stretch_at bytes = do
  mark ← byte_at bytes
  if mark.0 == 0 then made in_record (both (number_at w64) (number_at w64)) mark.1
      else if mark.0 == 1 then made in_file (both (number_at w64) (number_at w64)) mark.1
      else Err BadPlace
