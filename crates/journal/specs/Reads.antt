-- What is known of a file that is read from its start.
use Rattle.std.specs.Prelude.{◌≡◌, ◌≢◌, ◌⊎◌, ℕ, ◌+◌, ◌<◌, ◌≤◌}
use Rattle.std.specs.Prelude.{List, [], ◌++◌, length, take, drop, slice_index, Option, Some, None, IsTrue}
use Rattle.sqlite_disk.specs.declared.Disk.{Ghosts}
use Rattle.sqlite_disk.specs.Disk.{Torn}
use Rattle.journal.specs.Format.{Kept, number_of, number_in, time_in, length_in, sum_in, sum_here, span}
use Rattle.journal.specs.Format.{records, first, next, staged, stored, whole, Lie, sector}
use Rattle.journal.specs.Machine.{RunsRecords}
use Rattle.journal.specs.declared.head.Head.{Head}

-- nothing is written
pub record OnlyReads {D : Type 0} (g : Ghosts D) (old new : D) : Type 0 where
  pub seen : g.seen new ≡ g.seen old
  pub clean : IsTrue (g.is_clean new) → IsTrue (g.is_clean old)
  pub usable : IsTrue (g.is_usable new)
  pub faults : g.faults old ≤ g.faults new
  pub crash : (c : List ℕ) → g.may_leave new c → g.may_leave old c

-- a read of how long the next record is: all of it stands here, or not all
abbrev pub FindsSize : List ℕ → ℕ → Option ℕ → Type 0
FindsSize file at (Some size) =
    first (drop at file) ≡ Some (take size (drop (at + 8) file), drop (at + 8 + size) file)
FindsSize file at None = 0 < length (drop at file) → first (drop at file) ≡ Some (drop at file, [])

-- a read of the next record: its bytes, and where the one behind it begins, or none stands here
abbrev pub Finds : List ℕ → ℕ → List ℕ → Option ℕ → Type 0
Finds file at bytes (Some behind) = first (drop at file) ≡ Some (bytes, drop behind file)
Finds file at bytes None = first (drop at file) ≡ None

-- a first record, all of which is there, and what follows it
pub record IsFirst (bytes : List ℕ) (found : List ℕ × List ℕ) : Type 0 where
  pub fits : 8 + number_of (take 8 bytes) ≤ length bytes
  pub is : (take (number_of (take 8 bytes)) (drop 8 bytes), drop (8 + number_of (take 8 bytes)) bytes) ≡ found

-- a run over the records at the front of these bytes, which take so many of them, whatever follows
abbrev pub RunsPast : {M : Type 0} → (M → ℕ → List ℕ → M → Type 0) → ℕ → M → List ℕ → ℕ → M → Type 0
RunsPast steps time old bytes n new =
    (done : List (List ℕ)) × RunsRecords steps time old done new
    × ((more : List ℕ) → records (bytes ++ more) ≡ done ++ records (drop n bytes ++ more))

-- a run over the records of a batch from one place to another; the file ends with the batch
abbrev pub RunsTo : {M : Type 0} → (M → ℕ → List ℕ → M → Type 0) → ℕ → M → List ℕ → ℕ → ℕ → M → Type 0
RunsTo steps time old file at next new =
    (done : List (List ℕ)) × RunsRecords steps time old done new
    × (records (drop at file) ≡ done ++ records (drop next file))

-- these bytes are this head, of the batch with this number
pub record IsHead (number : ℕ) (bytes : List ℕ) (head : Head) : Type 0 where
  pub number_is : number_in bytes ≡ number
  pub sum_is : sum_in bytes ≡ sum_here bytes
  pub time_is : head.time ≡ time_in bytes
  pub len_is : head.len ≡ length_in bytes

-- they are no head of that batch, by its number, by its sum, or since there is no room for the batch
abbrev pub IsNoHead : ℕ → ℕ → List ℕ → Type 0
IsNoHead number room bytes =
    (number_in bytes ≢ number) ⊎ ((sum_in bytes ≢ sum_here bytes) ⊎ (room < span bytes))

-- the batch of this head, and what follows it
abbrev pub headed : List ℕ → ℕ → Head → Kept × List ℕ
headed file at head =
    ((head.time, records (take head.len (drop (at + sector + 32) file))), drop (at + sector + whole (32 + head.len)) file)

-- a read of the next head: its batch stands here, or none does
abbrev pub FindsBatch : List ℕ → ℕ → ℕ → Option Head → Type 0
FindsBatch file at number (Some head) = next number (drop at file) ≡ Some (headed file at head)
FindsBatch file at number None = next number (drop at file) ≡ None

-- the same, whatever its gate says
abbrev pub FindsStaged : List ℕ → ℕ → ℕ → Option Head → Type 0
FindsStaged file at number (Some head) = staged number (drop at file) ≡ Some (headed file at head)
FindsStaged file at number None = staged number (drop at file) ≡ None

-- all batches of a file stand before this place, and there none begins
pub record EndsAt (file : List ℕ) (end count : ℕ) : Type 0 where
  pub body : List ℕ
  pub front : take end file ≡ take sector file ++ body
  pub lie : Lie 0 body (stored file)
  pub none : next count (drop end file) ≡ None
  pub count_is : count ≡ length (stored file)
  pub within : end ≤ length file

-- no gate has all of its sector here, or one that reads as open
abbrev pub LooksOpen : List ℕ → ℕ → Type 0
LooksOpen file gate = (length file < gate + sector) ⊎ (slice_index file gate ≡ 1)

-- nothing is changed but the sector of a gate that looks open
abbrev pub Repairs : ℕ → List ℕ → List ℕ → Type 0
Repairs gate old new = (new ≡ old) ⊎ (LooksOpen old gate × Torn gate sector old new)

-- a file that begins otherwise, and to which nothing was written
pub record Refuses {D : Type 0} (g : Ghosts D) (line : List ℕ) (old new : D) : Type 0 where
  pub same : g.seen new ≡ g.seen old
  pub no_more : (c : List ℕ) → g.may_leave new c → g.may_leave old c
  pub other : IsTrue (g.is_clean new) → take sector (g.seen old) ≢ line
