-- What comes back of a file that ends before batches that count.
use Rattle.std.specs.Prelude.{◌≡◌, ◌⊎◌, ℕ, ◌+◌, ◌≤◌, List, ◌∷◌, ◌++◌, take, drop, length, slice_index, Some, IsTrue}
use Rattle.std.specs.Prelude.{false}
use Rattle.sqlite_disk.specs.Disk.{Torn}
use Rattle.journal.specs.Format.{Kept, next, staged, batches, stored, sector, span, number_in, sum_in, sum_here}
use Rattle.journal.specs.Reads.{EndsAt}

-- what stands in the sector of a gate behind its first byte, where it has a copy of the head of its batch
abbrev pub copy_at : List ℕ → ℕ → List ℕ
copy_at file gate = take 32 (drop (gate + 1) file)

-- the head of the batch behind a gate
abbrev pub head_at : List ℕ → ℕ → List ℕ
head_at file gate = take 32 (drop (gate + sector) file)

-- a batch stands at the end, and the sector of its gate has a copy of its head, as one that was opened has
abbrev pub IsShutIn : List ℕ → ℕ → ℕ → Type 0
IsShutIn file end count =
    (found : Kept × List ℕ) × (staged count (drop end file) ≡ Some found) × (copy_at file end ≡ head_at file end)

-- the same number of a head, which begins so many bytes behind its first
abbrev pub SameAt : ℕ → List ℕ → List ℕ → Type 0
SameAt k one two = take 8 (drop k one) ≡ take 8 (drop k two)

-- at most one of the four numbers of two heads differs: where more does, more than a head may have changed
abbrev pub AreNear : List ℕ → List ℕ → Type 0
AreNear one two =
    (SameAt 0 one two × SameAt 8 one two × (SameAt 16 one two ⊎ SameAt 24 one two))
    ⊎ (SameAt 16 one two × SameAt 24 one two × (SameAt 0 one two ⊎ SameAt 8 one two))

-- the gate at the end is open, and has a copy of the head of this batch, for which the file has room and from which
-- what stands in its place differs by one number at most
pub record HasHead (file : List ℕ) (end count : ℕ) : Type 0 where
  pub opened : slice_index file end ≡ 1
  pub number : number_in (copy_at file end) ≡ count
  pub sum : sum_in (copy_at file end) ≡ sum_here (copy_at file end)
  pub fits : end + sector + span (copy_at file end) ≤ length file
  pub near : AreNear (copy_at file end) (head_at file end)

-- The batch at the end counts, by the head that its gate has a copy of: the gate was opened, or it was open, and that
-- head was written.
pub record ComesBack (end count : ℕ) (old new : List ℕ) : Type 0 where
  pub found : Kept × List ℕ
  pub is : next count (drop end new) ≡ Some found
  pub head : head_at new end ≡ copy_at old end
  pub by : (IsShutIn old end count × Torn end sector old new)
      ⊎ ((slice_index old end ≡ 1) × Torn (end + sector) sector old new)

-- The file stands for what it stood for, and then for the batch at its end and what follows it, and nothing is changed
-- but the sector of that batch's gate and its first one.
pub record IsMended (old new : List ℕ) : Type 0 where
  pub end : ℕ
  pub count : ℕ
  pub ends : EndsAt old end count
  pub others : Torn end (sector + sector) old new
  pub back : ComesBack end count old new
  pub all : stored new ≡ stored old ++ back.found.0 ∷ batches (count + 1) back.found.1

-- no batch at the end of the file is shut in so, nor has its gate a copy of its head, or the file was only begun
abbrev pub CannotMend : List ℕ → Type 0
CannotMend file =
    (length file ≤ sector + sector)
    ⊎ ((end count : ℕ) × EndsAt file end count × (IsShutIn file end count → IsTrue false)
    × (HasHead file end count → IsTrue false))
