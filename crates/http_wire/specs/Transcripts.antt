-- Transcripts beside what is known of a reader's input and of what a writer holds.
use Rattle.std.specs.Prelude.{◌≡◌, ℕ, List, ◌++◌, Some}
use Rattle.http_wire.specs.States.{SourceState, SinkState}
use Rattle.http_wire.specs.Reading.{Gives, HasEnded}
use Rattle.http_wire.specs.Writing.{Takes}

-- If it is known what reads will give, what they gave and what is left are together that: the transcript of a source
-- that had given nothing is a prefix of its input, and all of it if the source has ended. If it is known what a writer
-- holds, that grew by what its writes took.
pub record TranscriptsAreOfTheKnown : Type 0 where
  pub given : (old new : SourceState) (bytes input : List ℕ) → Gives old new bytes → old.remaining ≡ Some input
      → (rest : List ℕ) × (new.remaining ≡ Some rest) × (old.given ++ input ≡ new.given ++ rest)
  pub all_given : (old new : SourceState) (bytes input : List ℕ) → Gives old new bytes → HasEnded new
      → old.remaining ≡ Some input → new.given ≡ old.given ++ input
  pub taken : (old new : SinkState) (bytes held : List ℕ) → Takes old new bytes → old.contents ≡ Some held
      → new.contents ≡ Some (held ++ bytes)
