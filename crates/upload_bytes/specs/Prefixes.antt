-- Which bytes the hashes of a session and of a body hold.
use Rattle.std.specs.Prelude.{ℕ, List, [], Option, Some, None, ⊤, ◌≡◌, ◌≤◌, ◌++◌, length, take, IfSome}
use Rattle.upload_names.specs.declared.digest.Algorithm.{Algorithm as By}
use Rattle.upload_names.specs.declared.digest.Algorithm.TheVariants.{Sha256, Sha512}
use Rattle.upload_bytes.specs.declared.prefix_hash.PrefixHash.{PrefixHash}
use Rattle.upload_bytes.specs.declared.hashing.Running.{Running}
use Rattle.upload_bytes.specs.Hashing.{StandsBy}
use Rattle.upload_bytes.specs.Running.{HoldsBy}
use Rattle.std.specs.List.{concat}
use Rattle.upload_bytes.specs.Segments.{Parts}
use Rattle.upload_bytes.specs.declared.filing.PrefixFile.{PrefixFile}
use Rattle.upload_bytes.specs.Spools.{HasIfAny}

-- The hash holds these bytes, and behind them a prefix of the segments that stay as they are: as many as it says.
pub record HoldsPrefix (by : By) (base : List ℕ) (settled : List (List ℕ)) (hash : PrefixHash) : Type 0 where
  pub holds : StandsBy by hash.running (base ++ concat (take hash.held settled))
  pub within : hash.held ≤ length settled

-- each hash of a session holds what left memory, and a prefix of its segments; two others hold just what left
pub record AreRunning (parts : Parts) (one two : PrefixHash) (first second : Running) : Type 0 where
  pub sha256 : HoldsPrefix Sha256 parts.base parts.settled one
  pub sha512 : HoldsPrefix Sha512 parts.base parts.settled two
  pub gone256 : HoldsBy Sha256 first parts.base
  pub gone512 : HoldsBy Sha512 second parts.base

-- a hash, if there is one, holds a prefix of these parts, by its algorithm
abbrev pub HoldsIfAny : Option PrefixHash → List (List ℕ) → Type 0
HoldsIfAny None parts = ⊤
HoldsIfAny (Some hash) parts = (by : By) × HoldsPrefix by [] parts hash

-- The bytes of a body that is still being read: the hash, if there is one, holds the first ones of its parts, and the
-- file, if there is one, has the first ones; what was read of files, if that is known, are just these bytes.
pub record IsBuilt (hash : Option PrefixHash) (file : Option PrefixFile) (reading : Option (List ℕ)) (len : ℕ) (parts : List (List ℕ)) (last : List ℕ) : Type 0 where
  pub holds : HoldsIfAny hash parts
  pub has : HasIfAny file parts
  pub read : IfSome reading (λ bytes. bytes ≡ concat parts ++ last)
  pub counted : len ≡ length (concat parts ++ last)
