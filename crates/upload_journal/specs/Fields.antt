-- The fields of an entry: how each is written, which values have a text, and what is read from the front of a list of
-- bytes. Numbers have a fixed width, the highest byte first; a text has its length before it.
use Rattle.std.specs.Prelude.{◌≡◌, ℕ, zero, suc, ◌<◌, ◌≤◌, ◌^◌, ◌==◌, ◌&&◌, nat_eq, nat_lt, nat_le, List, []}
use Rattle.std.specs.Prelude.{◌∷◌, ◌++◌, length, take, drop, Option, Some, None, Result, Ok, Err, if◌then◌else◌}
use Rattle.std.specs.Int.{Width, w32, w64, byte_len, from_be_bytes, to_be_bytes}
use Rattle.std.specs.List.{flat_map, AllByRecursion}
use Rattle.upload_names.specs.NamePass.{is_name}
use Rattle.upload_names.specs.Digest.{Digest, IsDigest, digest_text, digest_of}
use Rattle.upload_names.specs.Reference.{reference_text, reference_of}
use Rattle.upload_names.specs.ByteRange.{Span, range_cap}
use Rattle.std.specs.Cmp.Lexicographic.{pointwise}
use Rattle.upload_journal.specs.declared.fault.EntryFault.{EntryFault}
use Rattle.upload_journal.specs.declared.fault.EntryFault.TheVariants.{Short, BadName, BadDigest}
use Rattle.upload_journal.specs.declared.fault.EntryFault.TheVariants.{BadReference, BadRange, BadBody, BadAnswer}
use Rattle.upload_journal.specs.declared.fault.ReadError.{ReadError}
use Rattle.upload_journal.specs.declared.fault.ReadError.TheVariants as errors
use Rattle.upload_journal.specs.declared.body.BodyFile.{BodyFile}
use Rattle.upload_journal.specs.declared.body.KeptBody.{KeptBody}
use Rattle.upload_journal.specs.declared.body.KeptBody.TheVariants.{Here, InFiles}
use Rattle.upload_journal.specs.declared.entries.KeptAnswer.{KeptAnswer}
use Rattle.upload_journal.specs.declared.entries.KeptAnswer.TheVariants.{Begun, Taken, Stored}

-- ---- reading

infixl 10 ◌>>=◌
abbrev pub ◌>>=◌ : {A B : Type 0} → Result A EntryFault → (A → Result B EntryFault) → Result B EntryFault
(Ok x) >>= f = f x
(Err e) >>= f = Err e

-- a value, and the bytes behind it
abbrev pub Read : Type 0 → Type 0
Read A = Result (A × List ℕ) EntryFault

-- what a function returned, seen by view, is what is read, unless memory ran out
abbrev pub Fails : {Y : Type 0} → ReadError → Result Y EntryFault → Type 0
Fails errors.NoMemory read = Unit {0}
Fails (errors.Fault fault) read = read ≡ Err fault

abbrev pub Gives : {X Y : Type 0} → (X → Y) → Result X ReadError → Result Y EntryFault → Type 0
Gives view (Ok x) read = read ≡ Ok (view x)
Gives view (Err e) read = Fails e read

-- one value behind another
abbrev pub both : {A B : Type 0} → (List ℕ → Read A) → (List ℕ → Read B) → List ℕ → Read (A × B)
both first second bytes = do
  x ← first bytes
  y ← second x.1
  Ok ((x.0, y.0), y.1)

-- what a value is made into
abbrev pub made : {A B : Type 0} → (A → B) → (List ℕ → Read A) → List ℕ → Read B
made make first bytes = do
  x ← first bytes
  Ok (make x.0, x.1)

abbrev pub or_fault : {B : Type 0} → EntryFault → List ℕ → Option B → Read B
or_fault fault rest (Some y) = Ok (y, rest)
or_fault fault rest None = Err fault

-- what a value is made into, if it is lawful
abbrev pub tested : {A B : Type 0} → (A → Option B) → EntryFault → (List ℕ → Read A) → List ℕ → Read B
tested test fault first bytes = do
  x ← first bytes
  or_fault fault x.1 (test x.0)

-- ---- numbers and texts

-- this many bytes
unfoldable pub bytes_at : ℕ → List ℕ → Read (List ℕ)
bytes_at n bytes = if nat_lt (length bytes) n then Err Short else Ok (take n bytes, drop n bytes)

abbrev pub byte_at : List ℕ → Read ℕ
byte_at [] = Err Short
byte_at (b ∷ rest) = Ok (b, rest)

unfoldable pub number_at : Width → List ℕ → Read ℕ
number_at w bytes = made (from_be_bytes w) (bytes_at (byte_len w)) bytes

-- four bytes of length, and that many bytes
abbrev pub measured : List ℕ → List ℕ
measured text = to_be_bytes w32 (length text) ++ text

abbrev pub IsMeasured : List ℕ → Type 0
IsMeasured text = length text < 2 ^ 32

unfoldable pub text_at : List ℕ → Read (List ℕ)
text_at bytes = do
  n ← number_at w32 bytes
  bytes_at n.0 n.1

-- ---- names, digests and references, each by its text

abbrev pub name_of : List ℕ → Option (List ℕ)
name_of text = if is_name text then Some text else None

unfoldable pub name_at : List ℕ → Read (List ℕ)
name_at bytes = tested name_of BadName text_at bytes

unfoldable pub digest_at : List ℕ → Read Digest
digest_at bytes = tested digest_of BadDigest text_at bytes

-- the reference of a text, if that is the one that is written
abbrev pub if_written : List ℕ → Option (List ℕ) → Option (List ℕ)
if_written text None = None
if_written text (Some at) = if pointwise nat_eq (reference_text at) text then Some at else None

abbrev pub reference_in : List ℕ → Option (List ℕ)
reference_in text = if_written text (reference_of text)

abbrev pub IsReference : List ℕ → Type 0
IsReference at = reference_of (reference_text at) ≡ Some at

unfoldable pub reference_at : List ℕ → Read (List ℕ)
reference_at bytes = tested reference_in BadReference text_at bytes

-- ---- ranges

-- a mark, and both positions if there is a range
abbrev pub range_text : Option Span → List ℕ
range_text None = 0 ∷ []
range_text (Some span) = 1 ∷ (to_be_bytes w64 span.first ++ to_be_bytes w64 span.last)

abbrev pub span_in : ℕ × ℕ → Option Span
span_in p =
    if nat_le p.0 range_cap && nat_le p.1 range_cap then Some (record { first = p.0; last = p.1 }) else None

unfoldable pub span_at : List ℕ → Read Span
span_at bytes = tested span_in BadRange (both (number_at w64) (number_at w64)) bytes

unfoldable pub range_at : List ℕ → Read (Option Span)
range_at bytes = do
  mark ← byte_at bytes
  if mark.0 == 0 then Ok (None, mark.1)
      else if mark.0 == 1 then made Some span_at mark.1
      else Err BadRange

-- ---- bodies

-- the most bytes of a body that is in its entry
abbrev pub most_here : ℕ
most_here = 65536

abbrev pub file_text : BodyFile → List ℕ
file_text file = to_be_bytes w64 file.number ++ to_be_bytes w64 file.len

-- their count, and the number and the length of each
abbrev pub files_text : List BodyFile → List ℕ
files_text files = to_be_bytes w32 (length files) ++ flat_map file_text files

-- a mark, and the body or its files
abbrev pub body_text : KeptBody → List ℕ
body_text (Here body) = 0 ∷ measured body
body_text (InFiles files) = 1 ∷ files_text files

abbrev pub IsFile : BodyFile → Type 0
IsFile file = (file.number < 2 ^ 64) × (file.len < 2 ^ 64)

abbrev pub IsKeptBody : KeptBody → Type 0
IsKeptBody (Here body) = length body ≤ most_here
IsKeptBody (InFiles files) = (0 < length files) × (length files < 2 ^ 32) × AllByRecursion IsFile files

unfoldable pub file_at : List ℕ → Read BodyFile
file_at bytes = made (λ p. record { number = p.0; len = p.1 }) (both (number_at w64) (number_at w64)) bytes

-- this many files
unfoldable pub files_of : ℕ → List ℕ → Read (List BodyFile)
files_of zero bytes = Ok ([], bytes)
files_of (suc n) bytes = do
  first ← file_at bytes
  others ← files_of n first.1
  Ok (first.0 ∷ others.0, others.1)

unfoldable pub files_at : List ℕ → Read (List BodyFile)
files_at bytes = do
  n ← number_at w32 bytes
  if n.0 == 0 then Err BadBody else files_of n.0 n.1

abbrev pub short_in : List ℕ → Option (List ℕ)
short_in text = if nat_le (length text) most_here then Some text else None

unfoldable pub here_at : List ℕ → Read (List ℕ)
here_at bytes = tested short_in BadBody text_at bytes

unfoldable pub body_at : List ℕ → Read KeptBody
body_at bytes = do
  mark ← byte_at bytes
  if mark.0 == 0 then made Here here_at mark.1
      else if mark.0 == 1 then made InFiles files_at mark.1
      else Err BadBody

-- ---- answers

-- a mark, and what the answer names
abbrev pub told_text : KeptAnswer → List ℕ
told_text (Begun at) = 1 ∷ measured (reference_text at)
told_text (Taken next) = 2 ∷ to_be_bytes w64 next
told_text (Stored digest) = 3 ∷ measured (digest_text digest)

abbrev pub IsTold : KeptAnswer → Type 0
IsTold (Begun at) = IsReference at
IsTold (Taken next) = next < 2 ^ 64
IsTold (Stored digest) = IsDigest digest

unfoldable pub told_at : List ℕ → Read KeptAnswer
told_at bytes = do
  mark ← byte_at bytes
  if mark.0 == 1 then made Begun reference_at mark.1
      else if mark.0 == 2 then made Taken (number_at w64) mark.1
      else if mark.0 == 3 then made Stored digest_at mark.1
      else Err BadAnswer
