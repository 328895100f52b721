-- Why an entry was not applied.
use Rattle.std.specs.Prelude.{◌≡◌, ◌≢◌, ◌⊎◌, ℕ, ◌<◌, ◌≤◌, List, [], ◌∷◌, length, Some, Result, Ok, Err}
use Rattle.upload_service.specs.declared.ask.Ask.{Ask}
use Rattle.upload_service.specs.Machine.{answer_of, outcome}
use Rattle.upload_journal.specs.declared.bodies.BodyFault.{BodyFault}
use Rattle.upload_journal.specs.declared.bodies.BodyFault.TheVariants as bodies
use Rattle.upload_journal.specs.declared.body.BodyFile.{BodyFile}
use Rattle.upload_journal.specs.declared.body.KeptBody.{KeptBody}
use Rattle.upload_journal.specs.declared.body.KeptBody.TheVariants.{Here, InFiles}
use Rattle.upload_journal.specs.declared.entries.KeptAsk.{KeptAsk}
use Rattle.upload_journal.specs.declared.entries.KeptAsk.TheVariants as kept
use Rattle.upload_journal.specs.declared.entries.KeptExchange.{KeptExchange}
use Rattle.upload_journal.specs.declared.entries.Entry.{Entry}
use Rattle.upload_journal.specs.declared.entries.Entry.TheVariants.{Exchange as Kept}
use Rattle.upload_journal.specs.declared.fault.EntryFault.{EntryFault}
use Rattle.upload_journal.specs.declared.replay.ReplayFault.{ReplayFault}
use Rattle.upload_journal.specs.declared.replay.ReplayFault.TheVariants.{NoMemory, NotAnEntry, MomentFalls, NoBody}
use Rattle.upload_journal.specs.declared.replay.ReplayFault.TheVariants.{OtherLength, NotAsRecorded}
use Rattle.upload_journal.specs.Short.{told_of}
use Rattle.upload_journal.specs.Replay.{Point, IsAskOf}

-- the files that a body is in
abbrev pub files_of : KeptBody → List BodyFile
files_of (Here body) = []
files_of (InFiles files) = files

abbrev pub files_in : KeptAsk → List BodyFile
files_in (kept.Opening name) = []
files_in (kept.Single name digest body) = files_of body
files_in (kept.Mount name digest source) = []
files_in (kept.Chunk name at range body) = files_of body
files_in (kept.Close name at range digest body) = files_of body

-- it is so of one of the files
abbrev pub OfOne : (BodyFile → Type 0) → List BodyFile → Type 0
OfOne P [] = ⊥
OfOne P (file ∷ files) = P file ⊎ OfOne P files

-- By what stands under each number, and by what a read was refused with.
module _ (stands : ℕ → List ℕ → Type 0) (refused : ℕ → BodyFault → Type 0) where
  -- why a file of a body wasn't read: its read ended so, or what stands there has another length
  abbrev pub FileFails : ReplayFault → BodyFile → Type 0
  FileFails NoMemory file = refused file.number bodies.NoMemory
  FileFails (NoBody number fault) file =
      (number ≡ file.number) × refused file.number fault × (fault ≢ bodies.NoMemory)
  FileFails (OtherLength number) file =
      (number ≡ file.number) × ((bytes : List ℕ) × stands file.number bytes × (length bytes ≢ file.len))
  FileFails _ file = ⊥

  abbrev pub FilesFail : List BodyFile → ReplayFault → Type 0
  FilesFail files fault = OfOne (FileFails fault) files

  -- the service's answer to the request is another one, unless there is no memory for it
  pub record AnswersOtherwise (old : Point) (entry : KeptExchange) : Type 0 where
    pub ask : Ask
    pub asked : IsAskOf stands entry.ask ask
    pub other : told_of (answer_of (outcome old.state ask entry.secret entry.now)) ≢ Some entry.answer
    pub later : old.last ≤ entry.now

  -- why an exchange is not run
  abbrev pub ExchangeFails : Point → KeptExchange → ReplayFault → Type 0
  ExchangeFails old entry NoMemory = Unit {0}
  ExchangeFails old entry (NotAnEntry fault) = ⊥
  ExchangeFails old entry MomentFalls = entry.now < old.last
  ExchangeFails old entry (NoBody number fault) =
      (old.last ≤ entry.now) × FilesFail (files_in entry.ask) (NoBody number fault)
  ExchangeFails old entry (OtherLength number) =
      (old.last ≤ entry.now) × FilesFail (files_in entry.ask) (OtherLength number)
  ExchangeFails old entry NotAsRecorded = AnswersOtherwise old entry

  -- Why an entry is not applied, by what its text is read as. Of a want of memory nothing more can be told.
  abbrev pub Stops : Point → Result Entry EntryFault → ReplayFault → Type 0
  Stops old read NoMemory = Unit {0}
  Stops old read (NotAnEntry fault) = read ≡ Err fault
  Stops old read fault = (entry : KeptExchange) × (read ≡ Ok (Kept entry)) × ExchangeFails old entry fault
