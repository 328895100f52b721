-- What contracts see of a source, of an input over it, of a sink, and of a transcript.
use Rattle.std.specs.Prelude.{ℕ, Bool, List, Option}

-- of a source: its transcript, which is the bytes that its reads have given so far, in order, and whether the last read
-- that didn't fail said that the source has ended; the bytes that reads will give from here on, if they are known; how
-- many reads there were, and how many failed
pub record SourceState : Type 0 where
  pub given : List ℕ
  pub ended : Bool
  pub remaining : Option (List ℕ)
  pub reads : ℕ
  pub failed_reads : ℕ

-- of an input: the bytes that were read and not taken yet, and the source behind them
pub record InputState : Type 0 where
  pub held : List ℕ
  pub source : SourceState

abbrev pub input_state : List ℕ → SourceState → InputState
input_state held source = record { held = held; source = source }

-- of a sink: its transcript, which is the bytes that its writes have taken so far, in order; the bytes that it holds,
-- if they are known; how many writes and flushes there were, and how many failed; whether all that was written was
-- handed on
pub record SinkState : Type 0 where
  pub taken : List ℕ
  pub contents : Option (List ℕ)
  pub writes : ℕ
  pub failed_writes : ℕ
  pub flushed : Bool

-- of an excerpt of a file: the bytes that the file was given there, and those that came as it was read
pub record ExcerptState : Type 0 where
  pub told : List ℕ
  pub came : List ℕ

-- of a transcript: its bytes, in order, and whether the last piece of it was empty
pub record TranscriptState : Type 0 where
  pub bytes : List ℕ
  pub ended : Bool
