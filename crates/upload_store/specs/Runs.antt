-- What a recovery makes of a service.
use Rattle.std.specs.Prelude.{◌≡◌, ℕ, List, [], ◌∷◌, ◌++◌, map, Option, Some}
use Rattle.std.specs.List.{flat_map, All}
use Rattle.journal.specs.Format.{Kept}
use Rattle.upload_service.specs.Machine.{State, IsLawful}
use Rattle.upload_journal.specs.declared.entries.Entry.{Entry}
use Rattle.upload_journal.specs.declared.entries.Entry.TheVariants.{NumbersUpTo}
use Rattle.upload_journal.specs.Entries.{IsEntry, entry_text}
use Rattle.upload_journal.specs.Replay.{Point, Replays, IsRunOf, used_up}
use Rattle.upload_store.specs.Found.{texts_of}

-- these bytes are the file of this number
abbrev pub stands_in : (ℕ → Option (List ℕ)) → ℕ → List ℕ → Type 0
stands_in files number bytes = files number ≡ Some bytes

-- before the first entry
abbrev pub start_of : State → Point
start_of state = record { state = state; last = 0; upto = 0 }

-- numbers are used up, and what follows up to the next time that some are
abbrev pub Part : Type 0
Part = ℕ × List Entry

abbrev pub part_entries : Part → List Entry
part_entries part = NumbersUpTo part.0 ∷ part.1

-- entries up to the first that uses numbers up, and then parts
abbrev pub joined : List Entry → List Part → List Entry
joined first parts = first ++ flat_map part_entries parts

-- a run, of which the headline holds, and behind it numbers that are used up and the next run
abbrev pub AreRuns : (ℕ → List ℕ → Type 0) → Point → List Entry → List Part → Point → Type 0
AreRuns stands old first [] new = IsRunOf stands old first new
AreRuns stands old first (part ∷ parts) new =
    (mid : Point) × IsRunOf stands old first mid
    × AreRuns stands (record mid { state = used_up part.0 mid.state }) part.1 parts new

-- these batches are the texts of entries, which lead from the one point to the other, by runs of which the headline
-- holds
pub record IsReplayOf (all : List Kept) (files : ℕ → Option (List ℕ)) (old new : Point) : Type 0 where
  pub entries : List Entry
  pub are_entries : All IsEntry entries
  pub texts : texts_of all ≡ map entry_text entries
  pub replays : Replays (stands_in files) old entries new
  pub first : List Entry
  pub parts : List Part
  pub in_parts : entries ≡ joined first parts
  pub runs : AreRuns (stands_in files) old first parts new
  pub lawful : IsLawful new.state
