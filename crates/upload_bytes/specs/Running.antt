-- Which bytes a running hash holds.
use Rattle.std.specs.Prelude.{ℕ, List, Option, Some, None, ⊤}
use Rattle.sha2.specs.Hashers.{Holds256, Holds512}
use Rattle.upload_names.specs.declared.digest.Algorithm.{Algorithm as By}
use Rattle.upload_names.specs.declared.digest.Algorithm.TheVariants as algorithms
use Rattle.upload_bytes.specs.declared.hashing.Running.{Running}
use Rattle.upload_bytes.specs.declared.hashing.Running.TheVariants as runs

-- the hash is by this algorithm, and holds these bytes
abbrev pub HoldsBy : By → Running → List ℕ → Type 0
HoldsBy algorithms.Sha256 (runs.Sha256 hash) bytes = Holds256 hash bytes
HoldsBy algorithms.Sha256 (runs.Sha512 hash) bytes = ⊥
HoldsBy algorithms.Sha512 (runs.Sha256 hash) bytes = ⊥
HoldsBy algorithms.Sha512 (runs.Sha512 hash) bytes = Holds512 hash bytes

-- a hash that is carried holds these bytes, by its algorithm
abbrev pub HoldsIfCarried : Option Running → List ℕ → Type 0
HoldsIfCarried None bytes = ⊤
HoldsIfCarried (Some running) bytes = (by : By) × HoldsBy by running bytes
