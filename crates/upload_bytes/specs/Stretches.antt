-- What a stretch of a blob is kept in.
use Rattle.std.specs.Prelude.{ℕ, List}
use Rattle.upload_bytes.specs.declared.stretch.Location.{Location}
use Rattle.upload_bytes.specs.declared.stretch.Location.TheVariants.{Here, Filed}

-- its bytes
abbrev pub bytes_at : Location → List ℕ
bytes_at (Here part) = part
bytes_at (Filed part) = part
