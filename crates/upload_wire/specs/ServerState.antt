-- What contracts see of a server of connections.
use Rattle.std.specs.Prelude.{ℕ, List}

-- the limit of a body; and of the connection that it serves the bytes that were read and not taken, and how many
-- requests were answered
pub record ServerState : Type 0 where
  pub max_body : ℕ
  pub held : List ℕ
  pub answered : ℕ
