-- Names as a pass over their bytes, which computes whether a text is one.
use Rattle.std.specs.Prelude.{ℕ, ◌==◌, ◌||◌, ◌&&◌, nat_le, Bool, true, false, List, [], ◌∷◌, length, Option, Some, None}
use Rattle.std.specs.Prelude.{if◌then◌else◌}
use Rattle.upload_names.specs.declared.name.Place.{Place}
use Rattle.upload_names.specs.declared.name.Place.TheVariants.{WordStart, InWord, BehindUnderscore, BehindHyphen}
use Rattle.upload_names.specs.NameBytes.{is_word_byte, dot, underscore, hyphen, slash, longest_name}

-- where a byte that belongs to no word leads, if a name may go on with it
abbrev pub place_behind_joint : Place → ℕ → Option Place
place_behind_joint WordStart c = None
place_behind_joint InWord c =
    if (c == dot) || (c == slash) then Some WordStart
    else if c == underscore then Some BehindUnderscore
    else if c == hyphen then Some BehindHyphen
    else None
place_behind_joint BehindUnderscore c = if c == underscore then Some WordStart else None
place_behind_joint BehindHyphen c = if c == hyphen then Some BehindHyphen else None

abbrev pub place_behind : Place → ℕ → Option Place
place_behind place c = if is_word_byte c then Some InWord else place_behind_joint place c

-- a name ends where a word does
abbrev pub ends : Place → Bool
ends InWord = true
ends other = false

-- whether the text takes a pass from this place to the end of a name
abbrev pub passes : Option Place → List ℕ → Bool
passes None text = false
passes (Some place) [] = ends place
passes (Some place) (c ∷ text) = passes (place_behind place c) text

-- whether a text is of the grammar
unfoldable pub is_in_grammar : List ℕ → Bool
is_in_grammar text = passes (Some WordStart) text

-- whether a text is a name
unfoldable pub is_name : List ℕ → Bool
is_name text = is_in_grammar text && nat_le (length text) longest_name
