-- What the functions find that read fields.
use Rattle.std.specs.Prelude.{◌≡◌, ℕ, ◌<◌, List, [], ◌∷◌, length, Option, Some, None}
use Rattle.std.specs.Borrow.{Bor}
use Rattle.http_wire.specs.Fields.{elements}
use Rattle.http_wire.specs.declared.elements.Elements.{Elements}
use Rattle.http_wire.specs.declared.fields.Occurrence.{Occurrence}
use Rattle.http_wire.specs.declared.fields.Occurrence.TheVariants.{Absent, Once, Repeated}

-- how often a field stands there
abbrev pub IsOccurrence : List (List ℕ) → Occurrence → Type 0
IsOccurrence values Absent = values ≡ []
IsOccurrence values (Once v) = values ≡ v.now ∷ []
IsOccurrence values Repeated = 1 < length values

-- the elements of what is left, if anything is
abbrev pub elements_of_rest : Option (Bor (List ℕ)) → List (List ℕ)
elements_of_rest None = []
elements_of_rest (Some rest) = elements rest.now

-- the elements that the iterator has still to give
abbrev pub elements_left : Elements → List (List ℕ)
elements_left it = elements_of_rest it.rest
