-- What the ends of a connection gave and took, and what happened to connections.
use Rattle.std.specs.Prelude.{◌≡◌, ℕ, ◌==◌, List, ◌++◌, take, Result, MatchResult, Option, Some, None}
use Rattle.http_wire.specs.States.{SourceState, TranscriptState}

-- what one read adds to all that an end gave: at `Ok(n)` the first n bytes of the buffer, where 0 is the end, and at
-- `Err` nothing
abbrev pub ReadGives : {E : Type 0} → TranscriptState → TranscriptState → Result ℕ E → List ℕ → Type 0
ReadGives old new r buf =
    MatchResult r (λ n. new ≡ record { bytes = old.bytes ++ take n buf; ended = n == 0 }) (λ _. new ≡ old)

-- what one write adds to all that an end took: at `Ok(n)` the first n of the bytes, and at `Err` nothing
abbrev pub WriteTakes : {E : Type 0} → List ℕ → List ℕ → Result ℕ E → List ℕ → Type 0
WriteTakes old new r buf = MatchResult r (λ n. new ≡ old ++ take n buf) (λ _. new ≡ old)

-- A connection was made or accepted; or one was given back, after all this was read and written over it.
pub data ConnEvent : Type 0 where
  made : ConnEvent
  given_back : TranscriptState → List ℕ → ConnEvent

abbrev pub event_of : Option (TranscriptState × List ℕ) → ConnEvent
event_of None = made
event_of (Some ends) = given_back ends.0 ends.1

-- all that a source gave
abbrev pub transcript_of : SourceState → TranscriptState
transcript_of source = record { bytes = source.given; ended = source.ended }
