-- Bytes that a sink took.
use Rattle.std.specs.Prelude.{◌≡◌, ℕ, List, ◌++◌, take, Result, MatchResult, Ok, Err, ⊤}
use Rattle.std.specs.Io.KnownBytes.{Appends}
use Rattle.http_wire.specs.Counts.{CountsUp}
use Rattle.http_wire.specs.States.{SinkState}
use Rattle.http_wire.specs.declared.writing.WriteFault.{WriteFault}

-- what one write adds to the transcript: at `Ok(n)` the first n of the bytes, and at `Err` nothing
abbrev pub WriteTells : {E : Type 0} → SinkState → SinkState → Result ℕ E → List ℕ → Type 0
WriteTells old new r buf = MatchResult r (λ n. new.taken ≡ old.taken ++ take n buf) (λ _. new.taken ≡ old.taken)

-- the sink took these bytes: they were added to the transcript, and known bytes grew by them
pub record Takes (old new : SinkState) (bytes : List ℕ) : Type 0 where
  pub told : new.taken ≡ old.taken ++ bytes
  pub grown : Appends old.contents new.contents bytes

-- the sink took the whole text, and no call failed
pub record TookAll (old new : SinkState) (text : List ℕ) : Type 0 where
  pub takes : Takes old new text
  pub unfailed : new.failed_writes ≡ old.failed_writes

-- the sink took a prefix of the text, and then a call failed
pub record TookFront (old new : SinkState) (text : List ℕ) : Type 0 where
  pub front : List ℕ
  pub back : List ℕ
  pub cut : text ≡ front ++ back
  pub takes : Takes old new front
  pub failed : CountsUp old.failed_writes new.failed_writes

-- the sink took the text, or a prefix of it if a call failed
abbrev pub Wrote : SinkState → SinkState → List ℕ → Result ⊤ WriteFault → Type 0
Wrote old new text (Ok u) = TookAll old new text
Wrote old new text (Err fault) = TookFront old new text
