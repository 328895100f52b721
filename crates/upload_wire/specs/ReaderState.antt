-- What contracts see of a request reader.
use Rattle.std.specs.Prelude.{ℕ}
use Rattle.http_wire.specs.States.{InputState}
use Rattle.upload_wire.specs.declared.reader.Phase.{Phase}

-- its input, the limit of a body, and the phase
pub record ReaderState : Type 0 where
  pub input : InputState
  pub max_body : ℕ
  pub phase : Phase
