-- Bytes that files have.
use Rattle.std.specs.Prelude.{ℕ, List, Option, Some, None, []}

-- those of files, if there are any
abbrev pub bytes_of : Option (List ℕ) → List ℕ
bytes_of None = []
bytes_of (Some files) = files
