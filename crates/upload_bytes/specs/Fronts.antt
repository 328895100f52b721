-- What an upload had received, with its hash.
use Rattle.std.specs.Prelude.{ℕ, List, Option, Some, None, ⊤, ◌≡◌, ◌++◌, length}
use Rattle.upload_bytes.specs.declared.hashing.Running.{Running}
use Rattle.upload_bytes.specs.declared.body.Behind.{Behind}
use Rattle.upload_bytes.specs.Running.{HoldsIfCarried}

-- the hash holds the bytes of the parts, and so many bytes are there in all
pub record IsFront (hash : Running) (len : ℕ) (settled tail : List ℕ) : Type 0 where
  pub holds : HoldsIfCarried (Some hash) settled
  pub counted : len ≡ length (settled ++ tail)

-- a hash behind a front, if there is one, holds the front and these bytes
abbrev pub HoldsBehind : Option Behind → List ℕ → Type 0
HoldsBehind None bytes = ⊤
HoldsBehind (Some behind) bytes = HoldsIfCarried (Some behind.hash) (behind.front ++ bytes)
