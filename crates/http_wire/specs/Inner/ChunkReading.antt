-- What the functions find that read a chunked body.
use Rattle.std.specs.Prelude.{◌≡◌, ◌≢◌, ℕ, ◌≤◌, ◌⊎◌, Bool, true, false, List, [], ◌∷◌, ◌++◌, length, Result, Ok, Err}
use Rattle.httparse.specs.Ascii.{crlf_bytes}
use Rattle.http_wire.specs.States.{SourceState, InputState}
use Rattle.http_wire.specs.Reading.{Gave, HasEnded}
use Rattle.http_wire.specs.Inner.BodyReading.{BodyState, MovedNone}
use Rattle.http_wire.specs.Body.{Chunk, IsChunk, print_chunk, IsZero, IsBadBody, IsCutBody}
use Rattle.http_wire.specs.Inner.SizeLines.{StandsAt, IsLine, NeverLine}
use Rattle.http_wire.specs.declared.body.Framing.TheVariants.{Chunked}
use Rattle.http_wire.specs.declared.chunked.LineState.{LineState}
use Rattle.http_wire.specs.declared.chunked.LineRead.{LineRead}
use Rattle.http_wire.specs.declared.chunked.LineRead.TheVariants.{Size, Broken}
use Rattle.http_wire.specs.declared.chunked.ChunkRead.{ChunkRead}
use Rattle.http_wire.specs.declared.chunked.ChunkRead.TheVariants.{More, Last, Refused}
use Rattle.http_wire.specs.declared.fault.Bad.{Bad}
use Rattle.http_wire.specs.declared.fault.InputFault.{InputFault}
use Rattle.http_wire.specs.declared.fault.InputFault.TheVariants as Input
use Rattle.http_wire.specs.declared.fault.BodyFault.{BodyFault}
use Rattle.http_wire.specs.declared.fault.BodyFault.TheVariants as Fault

-- a whole size line was taken
pub record TakesLine (old new : InputState) (value : ℕ) : Type 0 where
  pub line : List ℕ
  pub is_line : IsLine line value
  pub gave : Gave old new.source (line ++ new.held)

-- at a byte the input stops being a prefix of a size line
pub record BreaksLine (old : InputState) (new : SourceState) : Type 0 where
  pub before : List ℕ
  pub byte : ℕ
  pub rest : List ℕ
  pub gave : Gave old new (before ++ byte ∷ rest)
  pub state : LineState
  pub stands : StandsAt before state
  pub never : NeverLine (before ++ byte ∷ [])

-- what came is a prefix of a size line
pub record CutsLine (old : InputState) (new : SourceState) : Type 0 where
  pub text : List ℕ
  pub gave : Gave old new text
  pub state : LineState
  pub stands : StandsAt text state

abbrev pub FindsLine : InputState → InputState → Result LineRead InputFault → Type 0
FindsLine old new (Ok (Size value)) = TakesLine old new value
FindsLine old new (Ok Broken) = BreaksLine old new.source
FindsLine old new (Err Input.Truncated) = CutsLine old new.source × HasEnded new.source
FindsLine old new (Err Input.Read) = CutsLine old new.source

-- no continuation begins with CR LF
abbrev pub NeverEnd : List ℕ → Type 0
NeverEnd text = (more rest : List ℕ) → text ++ more ≢ crlf_bytes ++ rest

-- at a byte the input stops being a prefix of CR LF
pub record BreaksEnd (old : InputState) (new : SourceState) : Type 0 where
  pub before : List ℕ
  pub byte : ℕ
  pub rest : List ℕ
  pub gave : Gave old new (before ++ byte ∷ rest)
  pub front : (before ≡ []) ⊎ (before ≡ 13 ∷ [])
  pub never : NeverEnd (before ++ byte ∷ [])

-- what came is a prefix of CR LF
pub record CutsEnd (old : InputState) (new : SourceState) : Type 0 where
  pub text : List ℕ
  pub gave : Gave old new text
  pub front : (text ≡ []) ⊎ (text ≡ 13 ∷ [])

abbrev pub FindsEnd : InputState → InputState → Result Bool InputFault → Type 0
FindsEnd old new (Ok true) = Gave old new.source (crlf_bytes ++ new.held)
FindsEnd old new (Ok false) = BreaksEnd old new.source
FindsEnd old new (Err Input.Truncated) = CutsEnd old new.source × HasEnded new.source
FindsEnd old new (Err Input.Read) = CutsEnd old new.source

-- a whole chunk was taken
pub record TakesChunk (room : ℕ) (old new : BodyState) : Type 0 where
  pub chunk : Chunk
  pub is_chunk : IsChunk chunk
  pub fits : length chunk.data_bytes ≤ room
  pub gave : Gave old.input new.input.source (print_chunk chunk ++ new.input.held)
  pub joined : new.body ≡ old.body ++ chunk.data_bytes

-- the end was taken
pub record TakesLast (old new : BodyState) : Type 0 where
  pub zeros : List ℕ
  pub is_zero : IsZero zeros
  pub gave : Gave old.input new.input.source ((zeros ++ (crlf_bytes ++ crlf_bytes)) ++ new.input.held)
  pub joined : new.body ≡ old.body

-- what came is no chunked text of so many bytes
pub record RefusesChunk (room : ℕ) (old : InputState) (new : SourceState) (why : Bad) : Type 0 where
  pub text : List ℕ
  pub gave : Gave old new text
  pub bad : IsBadBody (Chunked room) text why

-- what came is a prefix of a chunked text of so many bytes
pub record CutsChunk (room : ℕ) (old : InputState) (new : SourceState) : Type 0 where
  pub text : List ℕ
  pub gave : Gave old new text
  pub cut : IsCutBody (Chunked room) text

abbrev pub FindsChunk : ℕ → BodyState → BodyState → Result ChunkRead BodyFault → Type 0
FindsChunk room old new (Ok More) = TakesChunk room old new
FindsChunk room old new (Ok Last) = TakesLast old new
FindsChunk room old new (Ok (Refused why)) = RefusesChunk room old.input new.input.source why
FindsChunk room old new (Err Fault.Truncated) =
    CutsChunk room old.input new.input.source × HasEnded new.input.source
FindsChunk room old new (Err Fault.Read) = CutsChunk room old.input new.input.source
FindsChunk room old new (Err Fault.NoMemory) = MovedNone old.input new.input.source
