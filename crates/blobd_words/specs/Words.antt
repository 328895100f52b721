-- Commands, and the words that make them.
use Rattle.std.specs.Prelude.{◌≡◌, ◌≢◌, ℕ, ◌≤◌, ◌+◌, ◌⊎◌, Bool, true, false, List, [], length, slice_index_or, codes, Option}
use Rattle.std.specs.Prelude.{Some, None}
use Rattle.std.specs.Borrow.{Bor}
use Rattle.std.specs.Str.Parse.{IsNumeral, digits_value}
use Rattle.std.specs.Net.Grammar.{IsSocketText}
use Rattle.blobd_words.specs.declared.words.Keep.{Keep}
use Rattle.blobd_words.specs.declared.words.Command.{Command}
use Rattle.blobd_words.specs.declared.words.Command.TheVariants.{Once, Serve, Push, Status, Compact, Help, Version}
use Rattle.blobd_words.specs.Size.{WritesSize}

-- the word is one or more decimal digits, which write the number; it is from `least` to `most`
abbrev pub IsWithin : ℕ → ℕ → List ℕ → ℕ → Type 0
IsWithin least most word number =
    IsNumeral 10 word × (digits_value 10 word ≡ number) × (least ≤ number) × (number ≤ most)

-- a count: a number from 1 on
abbrev pub IsCount : ℕ → List ℕ → ℕ → Type 0
IsCount most word number = IsWithin 1 most word number

-- the word behind k others, or nothing
abbrev pub word_at : List (Bor (List ℕ)) → ℕ → List ℕ
word_at words k = (slice_index_or words k (record { ref_ptr = (0, 0); now = [] })).now

-- Behind `serve` and an address no word follows, and there is no count; or one does, and it is the count.
abbrev pub AreServeWords : List (Bor (List ℕ)) → Option ℕ → Type 0
AreServeWords words None = length words ≡ 2
AreServeWords words (Some count) = (length words ≡ 3) × IsCount 1000000 (word_at words 2) count

-- Behind `push`, an address, a name and a file no word follows, and the chunk has 16 MiB; or one does, and it writes
-- its size.
abbrev pub AreChunkWords : List (Bor (List ℕ)) → ℕ → Type 0
AreChunkWords words chunk =
    ((length words ≡ 4) × (chunk ≡ 16777216)) ⊎ ((length words ≡ 5) × WritesSize (word_at words 4) chunk)

-- Behind the command a directory follows, or this switch and a directory.
abbrev pub AreFolderWords : List ℕ → List (Bor (List ℕ)) → List ℕ → Bool → Type 0
AreFolderWords switch words path false =
    (length words ≡ 2) × (word_at words 1 ≢ switch) × (path ≡ word_at words 1)
AreFolderWords switch words path true =
    (length words ≡ 3) × (word_at words 1 ≡ switch) × (path ≡ word_at words 2)

-- a time in seconds, up to some thirty years
abbrev pub IsGrace : List ℕ → ℕ → Type 0
IsGrace word number = IsWithin 0 1000000000 word number

-- Behind k words a directory follows, and nothing says what stays; or it and a list follow, and what was stored within
-- a day stays too; or a switch and that time stand before them.
abbrev pub AreKeepWords : List (Bor (List ℕ)) → ℕ → List ℕ → Option Keep → Type 0
AreKeepWords words k path None =
    (length words ≡ k + 1) × (word_at words k ≢ codes "--grace") × (path ≡ word_at words k)
AreKeepWords words k path (Some keep) =
    ((length words ≡ k + 2) × (word_at words k ≢ codes "--grace") × (path ≡ word_at words k)
    × (keep.list.now ≡ word_at words (k + 1)) × (keep.grace ≡ 86400))
    ⊎ ((length words ≡ k + 4) × (word_at words k ≡ codes "--grace") × IsGrace (word_at words (k + 1)) keep.grace
    × (path ≡ word_at words (k + 2)) × (keep.list.now ≡ word_at words (k + 3)))

-- these follow `compact`, or this switch behind it
abbrev pub AreCompactWords : List (Bor (List ℕ)) → List ℕ → Bool → Option Keep → Type 0
AreCompactWords words path false keep = (word_at words 1 ≢ codes "--dry-run") × AreKeepWords words 1 path keep
AreCompactWords words path true keep = (word_at words 1 ≡ codes "--dry-run") × AreKeepWords words 2 path keep

-- the words behind the first one make the command, which is a compaction
abbrev pub IsCompaction : List (Bor (List ℕ)) → Command → Type 0
IsCompaction words (Compact path dry keep) = AreCompactWords words path.now dry keep
IsCompaction words _ = ⊥

-- the words make the command
abbrev pub Makes : List (Bor (List ℕ)) → Command → Type 0
Makes words Once = (length words ≡ 1) × (word_at words 0 ≡ codes "once")
Makes words (Serve addr count) =
    (word_at words 0 ≡ codes "serve") × IsSocketText (word_at words 1) addr × AreServeWords words count
Makes words (Push addr name file chunk) =
    (word_at words 0 ≡ codes "push") × IsSocketText (word_at words 1) addr × AreChunkWords words chunk
    × (name.now ≡ word_at words 2) × (file.now ≡ word_at words 3)
Makes words (Status path json) =
    (word_at words 0 ≡ codes "status") × AreFolderWords (codes "--json") words path.now json
Makes words (Compact path dry keep) = (word_at words 0 ≡ codes "compact") × AreCompactWords words path.now dry keep
Makes words Help = (length words ≡ 1) × (word_at words 0 ≡ codes "--help")
Makes words Version = (length words ≡ 1) × (word_at words 0 ≡ codes "--version")

-- a switch is on by the text 1, and off by 0 or an empty text; any other text is none
abbrev pub IsSwitch : List ℕ → Bool → Type 0
IsSwitch text true = text ≡ codes "1"
IsSwitch text false = (text ≡ codes "0") ⊎ (text ≡ [])
