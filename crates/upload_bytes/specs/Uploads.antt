-- What an upload received, and what is left of it.
use Rattle.std.specs.Prelude.{◌≡◌, ℕ, List, length}
use Rattle.upload_names.specs.declared.digest.Algorithm.TheVariants.{Sha256, Sha512}
use Rattle.upload_bytes.specs.declared.hashing.Running.{Running}
use Rattle.upload_bytes.specs.declared.upload.Content.{Content}
use Rattle.upload_bytes.specs.declared.upload.Content.TheVariants.{Held, Gone}
use Rattle.upload_bytes.specs.Running.{HoldsBy}

abbrev pub bytes_of : Content → List ℕ
bytes_of (Held received) = received
bytes_of (Gone digested) = digested

-- what is left of these bytes: their length, and hashes that hold them
pub record IsDigested (one two : Running) (len : ℕ) (bytes : List ℕ) : Type 0 where
  pub sha256 : HoldsBy Sha256 one bytes
  pub sha512 : HoldsBy Sha512 two bytes
  pub counted : len ≡ length bytes
