-- What came next of a file.
use Rattle.std.specs.Prelude.{ℕ, ◌+◌, ◌<◌, ◌≤◌, ◌^◌}

-- so many bytes behind an offset are bytes that the file was given, and no more came
pub record IsExcerpt (at len given came : ℕ) : Type 0 where
  pub within : at + len ≤ given
  pub counted : at + len < 2 ^ 64
  pub fits : came ≤ len
