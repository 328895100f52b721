-- An input: a source, behind the bytes that were read from it and not taken yet.
use Rattle.std.specs.Prelude.{◌≡◌, ℕ, List}
use Rattle.std.specs.Borrow.{MutBor}
use Rattle.http_wire.specs.States.{SourceState, InputState, input_state}
use Rattle.http_wire.specs.Reading.{Costs}
use Rattle.http_wire.specs.declared.input.Input.{Input}

-- what contracts see of it
abbrev pub input_of : {S : Type 0} → (S → SourceState) → Input S → InputState
input_of state input = input_state input.buffer.now (state input.source.now)

-- it is over this source, behind what this buffer holds
pub record IsInputOver {S : Type 0} (source : MutBor S) (buffer : MutBor (List ℕ)) (input : Input S) : Type 0 where
  pub same_source : input.source.ghost_name ≡ source.ghost_name
  pub same_buffer : input.buffer.ghost_name ≡ buffer.ghost_name
  pub source_is : input.source.now ≡ source.now
  pub buffer_is : input.buffer.now ≡ buffer.now

-- it is over the same source and the same buffer
pub record StaysOver {S : Type 0} (old new : Input S) : Type 0 where
  pub same_source : new.source.ghost_name ≡ old.source.ghost_name
  pub same_buffer : new.buffer.ghost_name ≡ old.buffer.ghost_name

-- it is over the same source and buffer, and there were at most so many reads; one failed if this holds, and none
-- else
pub record ReadsAtMost {S : Type 0} (state : S → SourceState) (most : ℕ) (fails : Type 0)
    (old new : Input S) : Type 0 where
  pub same_source : new.source.ghost_name ≡ old.source.ghost_name
  pub same_buffer : new.buffer.ghost_name ≡ old.buffer.ghost_name
  pub costs : Costs most fails (state old.source.now) (state new.source.now)
