-- The right to hold bytes.
use Rattle.std.specs.Prelude.{ℕ, Bool, IsTrue, ◌≤◌}

-- whether there is a limit, and how many bytes it grants
pub record Grants : Type 0 where
  pub limited : Bool
  pub bytes : ℕ

-- it grants so many bytes
abbrev pub Covers : Grants → ℕ → Type 0
Covers grants n = IsTrue grants.limited → n ≤ grants.bytes
