-- What segments stand for: bodies one after another.
use Rattle.std.specs.Prelude.{◌≡◌, ℕ, List, [], ◌∷◌, ◌++◌, Option, length, IfSome}
use Rattle.std.specs.List.{concat}

-- the parts with one more, but for an empty one
abbrev pub with_part : List (List ℕ) → List ℕ → List (List ℕ)
with_part parts [] = parts
with_part parts (b ∷ body) = parts ++ (b ∷ body) ∷ []

-- the bytes that left memory, the segments behind them that stay as they are, and the last one, which is empty if there
-- is none
pub record Parts : Type 0 where
  pub base : List ℕ
  pub settled : List (List ℕ)
  pub tail : List ℕ

-- all their bytes
abbrev pub whole : Parts → List ℕ
whole parts = parts.base ++ (concat parts.settled ++ parts.tail)

-- so many bytes are there in all, and so many left memory; the stretches have all but those of the last segment
pub record IsCounted (total left : ℕ) (stretches : Option (List (List ℕ))) (parts : Parts) : Type 0 where
  pub counted : total ≡ length (whole parts)
  pub gone : left ≡ length parts.base
  pub same : IfSome stretches (λ stretches. concat stretches ≡ parts.base ++ concat parts.settled)
