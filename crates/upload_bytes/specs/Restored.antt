-- Bytes that were read back from files.
use Rattle.std.specs.Prelude.{◌≡◌, ℕ, List, Option, Some, None, ⊤, length}
use Rattle.upload_names.specs.declared.digest.Algorithm.{Algorithm as By}
use Rattle.upload_names.specs.declared.digest.Algorithm.TheVariants.{Sha256, Sha512}
use Rattle.upload_bytes.specs.declared.hashing.Running.{Running}
use Rattle.upload_bytes.specs.Running.{HoldsBy}

-- a hash, if there is one, is by this algorithm and holds these bytes
abbrev pub HoldsIfThere : By → Option Running → List ℕ → Type 0
HoldsIfThere by None bytes = ⊤
HoldsIfThere by (Some hash) bytes = HoldsBy by hash bytes

-- the hashes, what was read of files, and the length are those of these bytes
pub record IsRestored (one two : Option Running) (read : List ℕ) (len : ℕ) (bytes : List ℕ) : Type 0 where
  pub sha256 : HoldsIfThere Sha256 one bytes
  pub sha512 : HoldsIfThere Sha512 two bytes
  pub same : read ≡ bytes
  pub counted : len ≡ length bytes
