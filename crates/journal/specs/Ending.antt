-- How the batches of a file end.
use Rattle.std.specs.Prelude.{◌≡◌, ◌≢◌, ◌⊎◌, ℕ, ◌+◌, ◌*◌, ◌<◌, ◌≤◌}
use Rattle.std.specs.Prelude.{List, length, take, drop, replicate, slice_index, Some, None}
use Rattle.journal.specs.Format.{Kept, next, sector}
use Rattle.journal.specs.Reads.{EndsAt}
use Rattle.journal.specs.declared.ending.Ending.{Ending}
use Rattle.journal.specs.declared.ending.Ending.TheVariants.{Sound, Doubtful, Broken}

-- behind this end of so many batches stands a later one than the next, behind an open gate so many sectors on: between
-- them there is room for those that are missing
abbrev pub IsLater : List ℕ → ℕ → ℕ → ℕ → Type 0
IsLater file end count sectors =
    (number : ℕ) × (count < number) × (number ≤ count + sectors) × (found : Kept × List ℕ)
    × (next number (drop (end + sectors * sector) file) ≡ Some found)

-- there is one, or there is none, in any sector
abbrev pub HasLater : List ℕ → ℕ → ℕ → Type 0
HasLater file end count = (sectors : ℕ) × IsLater file end count sectors

abbrev pub HasNoLater : List ℕ → ℕ → ℕ → Type 0
HasNoLater file end count =
    (sectors number : ℕ) → count < number → number ≤ count + sectors → next number (drop (end + sectors * sector) file)
    ≡ None

-- the gate at the end was never opened, and no later batch counts
pub record IsSound (file : List ℕ) (end count : ℕ) : Type 0 where
  pub zeros : take sector (drop end file) ≡ replicate sector 0
  pub no_later : HasNoLater file end count

-- a gate that was left open has this sector. One that a crash tore may begin with any byte.
abbrev pub left_gate : List ℕ
left_gate = replicate sector 2

-- a file that was only begun, or a gate that was being opened
abbrev pub IsDoubtful : List ℕ → ℕ → ℕ → Type 0
IsDoubtful file end count =
    ((length file < end + sector) × (count ≡ 0))
    ⊎ ((slice_index file end ≢ 1) × (take sector (drop end file) ≢ left_gate) × HasNoLater file end count
    × (take sector (drop end file) ≢ replicate sector 0))

-- no gate stands behind batches; the gate is open, or was left open; or a later batch counts
abbrev pub IsBroken : List ℕ → ℕ → ℕ → Type 0
IsBroken file end count =
    ((length file < end + sector) × (count ≢ 0))
    ⊎ ((slice_index file end ≡ 1) ⊎ ((take sector (drop end file) ≡ left_gate) ⊎ HasLater file end count))

abbrev pub EndsAs : Ending → List ℕ → ℕ → ℕ → Type 0
EndsAs Sound file end count = IsSound file end count
EndsAs Doubtful file end count = IsDoubtful file end count
EndsAs Broken file end count = IsBroken file end count

-- the file ends so behind all of its batches
pub record Ends (ending : Ending) (file : List ℕ) : Type 0 where
  pub end : ℕ
  pub count : ℕ
  pub ends : EndsAt file end count
  pub so : EndsAs ending file end count

-- the same of a file that is only looked at: one that was only begun may lack a part of its first line
abbrev pub Looks : Ending → List ℕ → Type 0
Looks ending file = ((ending ≡ Doubtful) × (length file ≤ sector + sector)) ⊎ Ends ending file
