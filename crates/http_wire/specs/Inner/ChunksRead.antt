-- Chunks that were read, with the body so far.
use Rattle.std.specs.Prelude.{◌≡◌, ℕ, ◌≤◌, List, ◌++◌, length, All}
use Rattle.http_wire.specs.Reading.{Gave}
use Rattle.http_wire.specs.Inner.BodyReading.{BodyState}
use Rattle.http_wire.specs.Body.{Chunk, IsChunk, chunks_text, chunks_data}

-- chunks were taken, and their data was joined to the body
pub record AreTaken (max_body : ℕ) (old new : BodyState) : Type 0 where
  pub chunks : List Chunk
  pub each : All IsChunk chunks
  pub gave : Gave old.input new.input.source (chunks_text chunks ++ new.input.held)
  pub joined : new.body ≡ old.body ++ chunks_data chunks
  pub fits : length new.body ≤ max_body
