-- The fields of a head (RFC 9110, section 5), and those that say whether the connection stays (RFC 9112, section 9).
use Rattle.std.specs.Prelude.{ℕ, Bool, not, ◌&&◌, ◌==◌, List, [], ◌∷◌, map, filter, codes, bytes_eq, Option, Some, None}
use Rattle.std.specs.List.{list_any}
use Rattle.std.specs.Char.{to_ascii_lowercase}
use Rattle.httparse.specs.Ascii.{comma}
use Rattle.httparse.specs.Grammar.{Field, trim_ows}
use Rattle.httparse.specs.Spans.{name_and_value}
use Rattle.form_urlencoded.specs.Form.{split}

-- fields as names and values without the white space around them
abbrev pub Fields : Type 0
Fields = List (List ℕ × List ℕ)

-- the fields of a head, in their order
abbrev pub head_fields : List Field → Fields
head_fields fields = map name_and_value fields

-- the text in lower case
abbrev pub lowercase : List ℕ → List ℕ
lowercase text = map to_ascii_lowercase text

-- the texts are the same but for the case of ASCII letters
abbrev pub same_word : List ℕ → List ℕ → Bool
same_word text other = bytes_eq (lowercase text) (lowercase other)

-- the values of the fields of that name, without regard to case
unfoldable pub values_of : List ℕ → Fields → List (List ℕ)
values_of name fields = map (λ f. f.1) (filter (λ f. same_word f.0 name) fields)

-- the first of the values
abbrev pub first_of : List (List ℕ) → Option (List ℕ)
first_of [] = None
first_of (value ∷ values) = Some value

-- a value's elements between the commas, without the white space around them
abbrev pub elements : List ℕ → List (List ℕ)
elements value = map trim_ows (split comma value)

-- the value lists `close`
unfoldable pub lists_close : List ℕ → Bool
lists_close value = list_any (λ element. same_word element (codes "close")) (elements value)

-- HTTP/1.1 keeps the connection unless a Connection field lists `close`, and HTTP/1.0 doesn't keep it
abbrev pub keeps_connection : ℕ → Fields → Bool
keeps_connection minor fields = (minor == 1) && not (list_any lists_close (values_of (codes "connection") fields))
