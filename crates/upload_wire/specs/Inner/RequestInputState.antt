-- What contracts see of an input of requests.
use Rattle.std.specs.Prelude.{ℕ, List}

-- the limit of a body, and the bytes that were read and not taken
pub record RequestInputState : Type 0 where
  pub max_body : ℕ
  pub held : List ℕ
