-- What reads give, and what they cost.
use Rattle.std.specs.Prelude.{◌≡◌, ℕ, ◌==◌, List, ◌++◌, take, IsTrue, Result, MatchResult}
use Rattle.std.specs.Io.KnownBytes.{Consumes, IsAtEnd}
use Rattle.http_wire.specs.Counts.{CountsUp, CountsAtMost}
use Rattle.http_wire.specs.States.{SourceState, InputState}

-- what one read adds to the transcript: at `Ok(n)` the first n bytes of the buffer, where 0 is the end, and at `Err`
-- nothing
abbrev pub ReadTells : {E : Type 0} → SourceState → SourceState → Result ℕ E → List ℕ → Type 0
ReadTells old new r buf =
    MatchResult r (λ n. (new.given ≡ old.given ++ take n buf) × (new.ended ≡ (n == 0)))
    (λ _. (new.given ≡ old.given) × (new.ended ≡ old.ended))

-- reads gave these bytes: they were added to the transcript, and bytes that were known to come began with them, and
-- lost them
pub record Gives (old new : SourceState) (bytes : List ℕ) : Type 0 where
  pub told : new.given ≡ old.given ++ bytes
  pub consumed : Consumes old.remaining new.remaining bytes

-- the last read said that the source has ended, and no byte is known to come
pub record HasEnded (source : SourceState) : Type 0 where
  pub told : IsTrue source.ended
  pub none_left : IsAtEnd source.remaining

-- some bytes were read, and the text is what was held and they behind it
pub record Gave (old : InputState) (new : SourceState) (text : List ℕ) : Type 0 where
  pub given : List ℕ
  pub gives : Gives old.source new given
  pub joined : text ≡ old.held ++ given

-- there were at most so many reads; one failed if this holds, and none else
pub record Costs (most : ℕ) (fails : Type 0) (old new : SourceState) : Type 0 where
  pub reads : CountsAtMost old.reads new.reads most
  pub failed : fails → CountsUp old.failed_reads new.failed_reads
  pub unfailed : ¬ fails → new.failed_reads ≡ old.failed_reads
