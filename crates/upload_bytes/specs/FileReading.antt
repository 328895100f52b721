-- A file that is read piece by piece.
use Rattle.std.specs.Prelude.{ℕ, List, ◌+◌, ◌<◌, ◌≤◌, ◌^◌, length}

-- all that it was given, and where the piece that was read last begins and how long it is
pub record FileReading : Type 0 where
  pub whole : List ℕ
  pub at : ℕ
  pub len : ℕ

-- the piece is one of the file, and what came of it is in memory
pub record IsRead (whole : List ℕ) (at len came : ℕ) (piece : List ℕ) : Type 0 where
  pub within : at + len ≤ length whole
  pub counted : at + len < 2 ^ 64
  pub fits : came ≤ len
  pub has : came ≤ length piece
