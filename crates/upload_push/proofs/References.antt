-- The references that a service makes, and the places that are written of them.
use Rattle.std.proofs.Common.{rules}
use Rattle.std.proofs.Common.{◌≡◌, ℕ, ◌<◌, List, length, length-append, arith}
use Rattle.std.specs.List.{All}
use Rattle.std.specs.Int.{w32, to_be_bytes}
use Rattle.std.proofs.lemmas.List.{length-set}
use Rattle.std.proofs.lemmas.List.Elements.{All-set, All-append}
use Rattle.upload_names.specs.Reference.{reference}
use Rattle.upload_push.specs.World.{IsSecret}

-- sixteen bytes
pub record IsReference (at : List ℕ) : Type 0 where
  pub sixteen : length at ≡ 16
  pub bytes : All (λ b. b < 256) at

-- a reference that is made is sixteen bytes
four_bytes : (n : ℕ) → All (λ b. b < 256) (to_be_bytes w32 n)
four_bytes n k d below = search (rules, arith)

pub reference_is : (n : ℕ) (secret : List ℕ) → IsSecret secret → IsReference (reference n secret)
unfolding reference
reference_is n secret is = search (rules, arith, length-set, length-append, All-set, All-append, four_bytes)
