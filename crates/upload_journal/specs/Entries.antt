-- Entries: the one text of each, and what a text is read as.
use Rattle.std.specs.Prelude.{◌≡◌, ℕ, ◌<◌, ◌^◌, ◌==◌, List, ◌∷◌, ◌++◌, length, Result, Ok, Err, IsTrue}
use Rattle.std.specs.Prelude.{IfSome, if◌then◌else◌}
use Rattle.std.specs.Int.{w32, w64, to_be_bytes}
use Rattle.upload_names.specs.NamePass.{is_name}
use Rattle.upload_names.specs.Digest.{IsDigest, digest_text}
use Rattle.upload_names.specs.Reference.{reference_text}
use Rattle.upload_names.specs.ByteRange.{IsSpan}
use Rattle.upload_journal.specs.declared.fault.EntryFault.{EntryFault}
use Rattle.upload_journal.specs.declared.fault.EntryFault.TheVariants.{UnknownKind, Trailing}
use Rattle.upload_journal.specs.declared.entries.KeptAsk.{KeptAsk}
use Rattle.upload_journal.specs.declared.entries.KeptAsk.TheVariants.{Opening, Single, Mount, Chunk, Close}
use Rattle.upload_journal.specs.declared.entries.KeptExchange.{KeptExchange}
use Rattle.upload_journal.specs.declared.entries.Entry.{Entry}
use Rattle.upload_journal.specs.declared.entries.Entry.TheVariants.{Exchange, NumbersUpTo, MomentsUpTo}
use Rattle.upload_journal.specs.Fields.{◌>>=◌, Read, both, made, byte_at, bytes_at, number_at, name_at, digest_at}
use Rattle.upload_journal.specs.Fields.{reference_at, range_at, body_at, told_at, measured, range_text, body_text}
use Rattle.upload_journal.specs.Fields.{told_text, IsReference, IsKeptBody, IsTold}
use Rattle.upload_journal.specs.Checksums.{with_checksum, checked, unchecked}

-- ---- texts: the kind of the entry in one byte, and its fields

abbrev pub ask_text : KeptAsk → List ℕ
ask_text (Opening name) = 1 ∷ measured name
ask_text (Single name digest body) = 2 ∷ (measured name ++ (measured (digest_text digest) ++ body_text body))
ask_text (Mount name digest source) = 3 ∷ (measured name ++ (measured (digest_text digest) ++ measured source))
ask_text (Chunk name at range body) =
    4 ∷ (measured name ++ (measured (reference_text at) ++ (range_text range ++ body_text body)))
ask_text (Close name at range digest body) =
    5 ∷ (measured name ++ (measured (reference_text at) ++ (range_text range ++ (measured (digest_text digest)
    ++ body_text body))))

-- what stands before the answer
abbrev pub asked_text : KeptAsk → List ℕ → ℕ → List ℕ
asked_text ask secret now = ask_text ask ++ (secret ++ to_be_bytes w64 now)

-- what stands before the checksum
abbrev pub plain_text : Entry → List ℕ
plain_text (Exchange x) = asked_text x.ask x.secret x.now ++ told_text x.answer
plain_text (NumbersUpTo n) = 6 ∷ to_be_bytes w32 n
plain_text (MomentsUpTo m) = 7 ∷ to_be_bytes w64 m

abbrev pub entry_text : Entry → List ℕ
entry_text entry = with_checksum (plain_text entry)

-- ---- what has a text

abbrev pub IsKeptAsk : KeptAsk → Type 0
IsKeptAsk (Opening name) = IsTrue (is_name name)
IsKeptAsk (Single name digest body) = IsTrue (is_name name) × IsDigest digest × IsKeptBody body
IsKeptAsk (Mount name digest source) = IsTrue (is_name name) × IsDigest digest × IsTrue (is_name source)
IsKeptAsk (Chunk name at range body) =
    IsTrue (is_name name) × IsReference at × IfSome range IsSpan × IsKeptBody body
IsKeptAsk (Close name at range digest body) =
    IsTrue (is_name name) × IsReference at × IfSome range IsSpan × IsDigest digest × IsKeptBody body

pub record IsKeptExchange (x : KeptExchange) : Type 0 where
  pub ask : IsKeptAsk x.ask
  pub secret : length x.secret ≡ 12
  pub now : x.now < 2 ^ 64
  pub answer : IsTold x.answer

abbrev pub IsEntry : Entry → Type 0
IsEntry (Exchange x) = IsKeptExchange x
IsEntry (NumbersUpTo n) = n < 2 ^ 32
IsEntry (MomentsUpTo m) = m < 2 ^ 64

-- ---- reading

unfoldable pub opening_at : List ℕ → Read KeptAsk
opening_at bytes = made Opening name_at bytes

unfoldable pub single_at : List ℕ → Read KeptAsk
single_at bytes = made (λ p. Single p.0 p.1.0 p.1.1) (both name_at (both digest_at body_at)) bytes

unfoldable pub mount_at : List ℕ → Read KeptAsk
mount_at bytes = made (λ p. Mount p.0 p.1.0 p.1.1) (both name_at (both digest_at name_at)) bytes

unfoldable pub chunk_at : List ℕ → Read KeptAsk
chunk_at bytes =
    made (λ p. Chunk p.0 p.1.0 p.1.1.0 p.1.1.1) (both name_at (both reference_at (both range_at body_at))) bytes

unfoldable pub close_at : List ℕ → Read KeptAsk
close_at bytes =
    made (λ p. Close p.0 p.1.0 p.1.1.0 p.1.1.1.0 p.1.1.1.1)
    (both name_at (both reference_at (both range_at (both digest_at body_at)))) bytes

unfoldable pub ask_at : ℕ → List ℕ → Read KeptAsk
ask_at kind bytes =
    if kind == 1 then opening_at bytes
    else if kind == 2 then single_at bytes
    else if kind == 3 then mount_at bytes
    else if kind == 4 then chunk_at bytes
    else if kind == 5 then close_at bytes
    else Err UnknownKind

unfoldable pub exchange_at : ℕ → List ℕ → Read KeptExchange
exchange_at kind bytes =
    made (λ p. record { ask = p.0; secret = p.1.0; now = p.1.1.0; answer = p.1.1.1 })
    (both (ask_at kind) (both (bytes_at 12) (both (number_at w64) told_at))) bytes

unfoldable pub entry_at : List ℕ → Read Entry
entry_at bytes = do
  kind ← byte_at bytes
  if kind.0 == 6 then made NumbersUpTo (number_at w32) kind.1
      else if kind.0 == 7 then made MomentsUpTo (number_at w64) kind.1
      else made Exchange (exchange_at kind.0) kind.1

-- what a whole text before its checksum is read as
unfoldable pub plain_of : List ℕ → Result Entry EntryFault
plain_of text = do
  x ← entry_at text
  if length x.1 == 0 then Ok x.0 else Err Trailing

-- what an entry's bytes are read as
abbrev pub entry_of : List ℕ → Result Entry EntryFault
entry_of bytes = checked bytes >>= plain_of

-- the same, whatever the checksum: what a damaged entry may have been
abbrev pub legible_of : List ℕ → Result Entry EntryFault
legible_of bytes = unchecked bytes >>= plain_of
