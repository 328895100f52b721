-- What a blob is kept in.
use Rattle.std.specs.Prelude.{ℕ, List, [], ◌++◌, box_value}
use Rattle.std.specs.List.{concat}
use Rattle.upload_bytes.specs.declared.blob.Shape.{Shape}
use Rattle.upload_bytes.specs.declared.blob.Shape.TheVariants as shapes
use Rattle.upload_bytes.specs.declared.blob.Several.{Several}
use Rattle.upload_bytes.specs.Before.{bytes_before}

-- the bytes of the last body
abbrev pub body_in : Several → List ℕ
body_in several = concat several.stretches.items ++ several.last

-- the bytes before the last body
abbrev pub before_last : Several → List ℕ
before_last several = bytes_before several.before

abbrev pub before_in : Shape → List ℕ
before_in (shapes.Small bytes) = []
before_in (shapes.One last) = []
before_in (shapes.Several several) = before_last (box_value several)

-- the bytes of the last body
abbrev pub last_in : Shape → List ℕ
last_in (shapes.Small bytes) = bytes
last_in (shapes.One last) = last
last_in (shapes.Several several) = body_in (box_value several)
