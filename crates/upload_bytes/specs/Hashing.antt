-- Which bytes a hash stands for, here or in a thread.
use Rattle.std.specs.Prelude.{ℕ, List, ◌++◌}
use Rattle.std.specs.List.{concat}
use Rattle.upload_names.specs.declared.digest.Algorithm.{Algorithm as By}
use Rattle.upload_bytes.specs.declared.hashing.Running.{Running}
use Rattle.upload_bytes.specs.declared.hashing.Hashing.{Hashing}
use Rattle.upload_bytes.specs.declared.hashing.Hashing.TheVariants.{Here, Away}
use Rattle.upload_bytes.specs.Running.{HoldsBy}

-- One that is away stands for what its thread's result will hold, whatever that result is.
abbrev pub StandsBy : By → Hashing → List ℕ → Type 0
StandsBy by (Here hash) bytes = HoldsBy by hash bytes
StandsBy by (Away away) bytes =
    (hash : Running)
    → ((of : By) (before : List ℕ) → HoldsBy of away.thread.promise.before.value before
    → HoldsBy of hash (before ++ concat away.thread.promise.parts.value.items))
    → HoldsBy by hash bytes
