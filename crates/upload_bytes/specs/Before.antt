-- What came before the last body of a blob.
use Rattle.std.specs.Prelude.{ℕ, List}
use Rattle.upload_bytes.specs.declared.before.Before.{Before}
use Rattle.upload_bytes.specs.declared.before.Before.TheVariants.{Here, Kept}
use Rattle.upload_bytes.specs.Segments.{whole}

-- its bytes
abbrev pub bytes_before : Before → List ℕ
bytes_before (Here segments) = whole segments
bytes_before (Kept segments) = segments
