-- What is kept of a request, and of its answer.
use Rattle.std.specs.Prelude.{◌≡◌, ℕ, ◌<◌, ◌≤◌, ◌^◌, Bool, true, false, List, [], ◌∷◌, ◌++◌, length, Option, Some, None}
use Rattle.std.specs.Prelude.{option_map}
use Rattle.upload_names.specs.ByteRange.{Span}
use Rattle.upload_service.specs.declared.ask.Extent.{Extent}
use Rattle.upload_service.specs.declared.ask.Extent.TheVariants.{Absent, Bad, Given}
use Rattle.upload_service.specs.declared.ask.Ask.{Ask}
use Rattle.upload_service.specs.declared.ask.Ask.TheVariants as asks
use Rattle.upload_service.specs.declared.answer.Answer.{Answer}
use Rattle.upload_service.specs.declared.answer.Answer.TheVariants as answers
use Rattle.upload_journal.specs.declared.body.BodyFile.{BodyFile}
use Rattle.upload_journal.specs.declared.body.KeptBody.{KeptBody}
use Rattle.upload_journal.specs.declared.body.KeptBody.TheVariants.{Here, InFiles}
use Rattle.upload_journal.specs.declared.entries.KeptAsk.{KeptAsk}
use Rattle.upload_journal.specs.declared.entries.KeptAsk.TheVariants as kept
use Rattle.upload_journal.specs.declared.entries.KeptAnswer.{KeptAnswer}
use Rattle.upload_journal.specs.declared.entries.KeptAnswer.TheVariants.{Begun, Taken, Stored}
use Rattle.upload_journal.specs.Fields.{most_here}
use Rattle.upload_journal.specs.Entries.{ask_text}

-- an answer in short, if it says that something changed
abbrev pub told_of : Answer → Option KeptAnswer
told_of answers.Base = None
told_of (answers.Blob digest size bytes) = None
told_of (answers.Begun name at) = Some (Begun at)
told_of (answers.Stored name digest) = Some (Stored digest)
told_of (answers.Taken name at next) = Some (Taken next)
told_of (answers.Standing name at next) = None
told_of (answers.Misplaced name at next) = None
told_of (answers.Refused refusal) = None
told_of answers.NoMemory = None

-- where a body is kept: in these files, or in the entry if there are none
abbrev pub kept_body : List ℕ → List BodyFile → KeptBody
kept_body body [] = Here body
kept_body body (file ∷ files) = InFiles (file ∷ files)

-- the range that is kept; a body of a bad range is never taken
abbrev pub kept_range : Extent → Option (Option Span)
kept_range Absent = Some None
kept_range Bad = None
kept_range (Given range) = Some (Some range)

-- what is kept of a request, if it can change something
abbrev pub kept_of : Ask → List BodyFile → Option KeptAsk
kept_of asks.Base files = None
kept_of (asks.Has name digest head) files = None
kept_of (asks.Opening name) files = Some (kept.Opening name)
kept_of (asks.Single name digest body) files =
    option_map (λ d. kept.Single name d (kept_body body files)) digest
kept_of (asks.Mount name digest source) files = Some (kept.Mount name digest source)
kept_of (asks.Chunk name at range body) files =
    option_map (λ r. kept.Chunk name at r (kept_body body files)) (kept_range range)
kept_of (asks.Status name at) files = None
kept_of (asks.Close name at range None body) files = None
kept_of (asks.Close name at range (Some digest) body) files =
    option_map (λ r. kept.Close name at r digest (kept_body body files)) (kept_range range)
kept_of (asks.Refused refusal) files = None

-- a body fits: it is in files, or short enough for the entry
abbrev pub HasPlace : List ℕ → List BodyFile → Type 0
HasPlace body [] = length body ≤ most_here
HasPlace body (file ∷ files) = Unit {0}

abbrev pub IsPlaced : Ask → List BodyFile → Type 0
IsPlaced (asks.Single name digest body) files = HasPlace body files
IsPlaced (asks.Chunk name at range body) files = HasPlace body files
IsPlaced (asks.Close name at range digest body) files = HasPlace body files
IsPlaced other files = Unit {0}

-- a request with these files has a text
abbrev pub Fits : Ask → List BodyFile → Type 0
Fits ask files = (length files < 2 ^ 32) × IsPlaced ask files

-- the most bytes behind a request: of an answer in short, and of a checksum
abbrev pub most_behind : ℕ
most_behind = 148

-- the text of what is kept of a request stands behind what stood there, if something is kept
abbrev pub PutsAsk : Bool → List ℕ → List ℕ → Option KeptAsk → Type 0
PutsAsk put old new None = put ≡ false
PutsAsk put old new (Some ask) = (put ≡ true) × (new ≡ old ++ ask_text ask)
