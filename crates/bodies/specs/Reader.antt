-- What a file of a body shows that is read apart from its shelf.
use Rattle.std.specs.Prelude.{ℕ, Bool, List, reverse}
use Rattle.bodies.specs.declared.reader.BodyReader.{BodyReader}

abbrev pub number_of : BodyReader → ℕ
number_of reader = reader.number

-- what came of it
abbrev pub bytes_of : BodyReader → List ℕ
bytes_of reader = reverse reader.came

-- a read has found its end
abbrev pub is_over : BodyReader → Bool
is_over reader = reader.is_over
