-- The parameters of a query (the form encoding of the URL Standard, section 5).
use Rattle.std.specs.Prelude.{ℕ, List, [], ◌∷◌, Option, Some, None, bytes_eq, if◌then◌else◌}
use Rattle.std.specs.Str.Lossy.{utf8_lossy}
use Rattle.form_urlencoded.specs.Form.{raw_pairs, decode}

-- names and values, still encoded
abbrev pub Pairs : Type 0
Pairs = List (List ℕ × List ℕ)

-- the text that a name or a value stands for
abbrev pub decoded : List ℕ → List ℕ
decoded encoded = utf8_lossy (decode encoded)

-- the value of the first pair of that name
abbrev pub first_value : List ℕ → Pairs → Option (List ℕ)
first_value name [] = None
first_value name (p ∷ pairs) = if bytes_eq (decoded p.0) name then Some (decoded p.1) else first_value name pairs

-- a parameter of a query: of a repeated one the first counts
abbrev pub parameter : List ℕ → List ℕ → Option (List ℕ)
parameter name query = first_value name (raw_pairs query)
