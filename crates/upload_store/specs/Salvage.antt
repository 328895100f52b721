-- A recovery that goes on behind records that can't be run again.
use Rattle.std.specs.Prelude.{◌≡◌, ◌≢◌, ◌⊎◌, ℕ, ◌+◌, ◌-◌, ◌≤◌, ◌^◌, ◌==◌, min, max, nat_le, nat_lt, if◌then◌else◌}
use Rattle.std.specs.Prelude.{List, [], ◌∷◌, ◌++◌, length, Option, None, Result, Ok, Err}
use Rattle.std.specs.Result.{result_ok}
use Rattle.std.specs.List.{All, fold}
use Rattle.journal.specs.Format.{Kept}
use Rattle.journal.specs.Machine.{Runs}
use Rattle.upload_names.specs.Reference.{number_of}
use Rattle.upload_service.specs.Machine.{last_number}
use Rattle.upload_journal.specs.declared.bodies.BodyFault.{BodyFault}
use Rattle.upload_journal.specs.declared.bodies.BodyFault.TheVariants as bodies
use Rattle.upload_journal.specs.declared.entries.KeptAsk.{KeptAsk}
use Rattle.upload_journal.specs.declared.entries.KeptAsk.TheVariants.{Opening, Single, Mount, Chunk, Close}
use Rattle.upload_journal.specs.declared.entries.KeptAnswer.{KeptAnswer}
use Rattle.upload_journal.specs.declared.entries.KeptAnswer.TheVariants.{Begun, Taken, Stored}
use Rattle.upload_journal.specs.declared.entries.Entry.{Entry}
use Rattle.upload_journal.specs.declared.entries.Entry.TheVariants.{Exchange, NumbersUpTo, MomentsUpTo}
use Rattle.upload_journal.specs.declared.fault.EntryFault.{EntryFault}
use Rattle.upload_journal.specs.declared.replay.ReplayFault.{ReplayFault}
use Rattle.upload_journal.specs.declared.replay.ReplayFault.TheVariants as faults
use Rattle.upload_journal.specs.Entries.{IsEntry, entry_text, entry_of, legible_of}
use Rattle.upload_journal.specs.Replay.{Point, used_up, Applies}
use Rattle.upload_journal.specs.Stops.{Stops}
use Rattle.upload_store.specs.declared.fault.Loss.{Loss}
use Rattle.upload_store.specs.Found.{texts_of, numbers_of}
use Rattle.upload_store.specs.Runs.{stands_in, IsReplayOf}

-- ---- the numbers that an entry names

-- of the session that an answer says was begun
abbrev pub number_told : KeptAnswer → ℕ
number_told (Begun at) = number_of at
number_told (Taken next) = 0
number_told (Stored digest) = 0

-- of the session that a request goes to
abbrev pub number_asked : KeptAsk → ℕ
number_asked (Opening name) = 0
number_asked (Single name digest body) = 0
number_asked (Mount name digest source) = 0
number_asked (Chunk name at range body) = number_of at
number_asked (Close name at range digest body) = number_of at

-- the highest number that an entry names, or 0
abbrev pub highest : Entry → ℕ
highest (Exchange x) = max (number_asked x.ask) (number_told x.answer)
highest (NumbersUpTo n) = n
highest (MomentsUpTo m) = 0

-- the number before that of the session that an entry begins
abbrev pub before : Entry → ℕ
before (Exchange x) = number_told x.answer - 1
before (NumbersUpTo n) = 0
before (MomentsUpTo m) = 0

abbrev pub of_read : (Entry → ℕ) → Result Entry EntryFault → ℕ
of_read f (Ok entry) = f entry
of_read f (Err fault) = 0

-- a count of 64 bits with one more
abbrev pub one_more : ℕ → ℕ
one_more n = min (n + 1) (2 ^ 64 - 1)

-- the first number above those of these files
abbrev pub past : List ℕ → ℕ
past numbers = fold (λ high n. max high (one_more n)) 0 numbers

-- the numbers up to n are used up, of which there are 4,294,967,295
abbrev pub raised : ℕ → Point → Point
raised n point = record point { state = used_up (min n last_number) point.state }

-- ---- one record after the other

-- how far a recovery has come: how many records it has gone over, how many of these are lost, the first ones, the
-- highest number of a session that a lost one names, and the first one above those of the files that these name
pub record Stand : Type 0 where
  pub point : Point
  pub place : ℕ
  pub lost : ℕ
  pub listed : List Loss
  pub named : ℕ
  pub past : ℕ

abbrev pub stand_at : Point → Stand
stand_at point = record { point = point; place = 0; lost = 0; listed = []; named = 0; past = 0 }

-- Where a record is run: a session that it begins gets the number that it had, if the numbers before that one may have
-- been those of lost records, each of which had one at most.
abbrev pub ready : Stand → Result Entry EntryFault → Point
ready it read =
    if it.lost == 0 then it.point
    else if nat_le (of_read before read) (it.point.state.issued + it.lost) then raised (of_read before read) it.point
    else it.point

-- as many losses are listed
abbrev pub most_listed : ℕ
most_listed = 64

abbrev pub listed_with : List Loss → Loss → List Loss
listed_with listed loss = if nat_lt (length listed) most_listed then listed ++ loss ∷ [] else listed

-- a record of a batch with this time is lost, by this fault
abbrev pub lose_at : Stand → ℕ → List ℕ → ReplayFault → Stand
lose_at it time text fault = record {
  point = it.point;
  place = one_more it.place;
  lost = one_more it.lost;
  listed =
      listed_with it.listed
      (record { time = time; place = it.place; fault = fault; entry = result_ok (legible_of text) });
  named = max it.named (of_read highest (entry_of text));
  past = max it.past (past (numbers_of text));
}

abbrev pub made_ready : Stand → List ℕ → Stand
made_ready it text = record it { point = ready it (entry_of text) }

module _ (stands : ℕ → List ℕ → Type 0) (refused : ℕ → BodyFault → Type 0) where
  -- the record is an entry, which does what it did
  pub record Counts (old : Stand) (text : List ℕ) (new : Stand) : Type 0 where
    pub entry : Entry
    pub is_entry : IsEntry entry
    pub text_is : text ≡ entry_text entry
    pub applies : Applies stands (ready old (entry_of text)) entry new.point
    pub is : new ≡ record old { point = new.point; place = one_more old.place }

  -- the record can't be run again here, by a cause that isn't want of memory
  pub record Loses (old : Stand) (time : ℕ) (text : List ℕ) (new : Stand) : Type 0 where
    pub fault : ReplayFault
    pub some : fault ≢ faults.NoMemory
    pub stops : Stops stands refused (ready old (entry_of text)) (entry_of text) fault
    pub is : new ≡ lose_at (made_ready old text) time text fault

  abbrev pub Salvages : Stand → ℕ → List ℕ → Stand → Type 0
  Salvages old time text new = Counts old text new ⊎ Loses old time text new

-- ---- all records

-- why a file wasn't read: there is none, or a call failed
abbrev pub refused_in : (ℕ → Option (List ℕ)) → Type 0 → ℕ → BodyFault → Type 0
refused_in files failed number bodies.NoMemory = Unit {0}
refused_in files failed number bodies.NotThere = files number ≡ None
refused_in files failed number bodies.NotRead = failed

-- At the end the numbers that lost records name are used up, and as many as they may have had.
abbrev pub finished : Stand → Point
finished it = raised (max (it.point.state.issued + it.lost) it.named) it.point

-- These are some of the texts, in order, and between them entries that use numbers up.
abbrev pub AreAmong : List (List ℕ) → List (List ℕ) → Type 0
AreAmong all [] = Unit {0}
AreAmong all (text ∷ texts) =
    ((skipped : List (List ℕ)) × (rest : List (List ℕ)) × (all ≡ skipped ++ text ∷ rest) × AreAmong rest texts)
    ⊎ ((n : ℕ) × (text ≡ entry_text (NumbersUpTo n)) × AreAmong all texts)

-- Each record of these batches counts, or is lost by a cause at its place, and the first losses are listed. The point
-- is that of a recovery of those that count, in order, with numbers that are used up between.
pub record IsSalvageOf (all : List Kept) (files : ℕ → Option (List ℕ)) (failed : Type 0) (old new : Point) (lost : ℕ)
    (listed : List Loss) : Type 0 where
  pub end : Stand
  pub runs : Runs (Salvages (stands_in files) (refused_in files failed)) (stand_at old) all end
  pub ends : new ≡ finished end
  pub lost_is : lost ≡ end.lost
  pub listed_is : listed ≡ end.listed
  pub counted : List Kept
  pub among : AreAmong (texts_of all) (texts_of counted)
  pub replay : IsReplayOf counted files old new
  -- the next number is above each that a record names, whether it counts or is lost
  pub above : All (λ text. min (of_read highest (entry_of text)) last_number ≤ new.state.issued) (texts_of all)
  -- if nothing is lost, each was run, and it is a recovery of all
  pub none_lost : lost ≡ 0 → IsReplayOf all files old new
  -- nothing is lost of what can be run again, unless a call of the shelf failed
  pub whole : (point : Point) → IsReplayOf all files old point → failed ⊎ ((lost ≡ 0) × (new ≡ point))
