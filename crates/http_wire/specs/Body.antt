-- The body of a request: how its head frames it (RFC 9112, section 6), and the text of a chunked one
-- (section 7.1), which has no chunk extensions and no trailers here.
use Rattle.std.specs.Prelude.{◌≡◌, ℕ, ◌+◌, ◌<◌, ◌≤◌, ◌⊎◌, ◌==◌, nat_lt, Bool, ◌&&◌, List, [], ◌∷◌, ◌++◌, length, codes}
use Rattle.std.specs.Prelude.{All, if◌then◌else◌, Result, Ok, Err}
use Rattle.std.specs.List.{flat_map, list_all}
use Rattle.std.specs.Char.{is_ascii_digit, is_ascii_hexdigit}
use Rattle.std.specs.Str.Parse.{digits_value}
use Rattle.httparse.specs.Ascii.{crlf_bytes}
use Rattle.httparse.specs.Grammar.{AllPass, RequestHead}
use Rattle.http_wire.specs.Fields.{Fields, head_fields, same_word, values_of}
use Rattle.http_wire.specs.declared.fault.Bad.{Bad}
use Rattle.http_wire.specs.declared.fault.Bad.TheVariants as bads
use Rattle.http_wire.specs.declared.body.Framing.{Framing}
use Rattle.http_wire.specs.declared.body.Framing.TheVariants.{Length, Chunked}

-- ---- framing

-- one decimal digit or more
unfoldable pub is_number : List ℕ → Bool
is_number value = nat_lt 0 (length value) && list_all is_ascii_digit value

-- the number of the digits; unreadable if they are none, and too large above the limit
abbrev pub length_of : ℕ → List ℕ → Result ℕ Bad
length_of max_body value =
    if is_number value then
    (if nat_lt max_body (digits_value 10 value) then Err bads.TooLarge else Ok (digits_value 10 value))
    else Err bads.Length

abbrev pub sized : Result ℕ Bad → Result Framing Bad
sized (Ok n) = Ok (Length n)
sized (Err bad) = Err bad

-- by the values of Content-Length: none is a length of 0, and two are unreadable
abbrev pub framing_by_length : ℕ → List (List ℕ) → Result Framing Bad
framing_by_length max_body [] = Ok (Length 0)
framing_by_length max_body (value ∷ []) = sized (length_of max_body value)
framing_by_length max_body (value ∷ other ∷ values) = Err bads.Length

-- by the values of Transfer-Encoding: HTTP/1.1 has `chunked` once, and all else is a bad coding
abbrev pub framing_by_coding : ℕ → ℕ → List (List ℕ) → Result Framing Bad
framing_by_coding max_body minor [] = Err bads.Coding
framing_by_coding max_body minor (coding ∷ []) =
    if (minor == 1) && same_word coding (codes "chunked") then Ok (Chunked max_body) else Err bads.Coding
framing_by_coding max_body minor (coding ∷ other ∷ codings) = Err bads.Coding

-- by both: a Transfer-Encoding beside a Content-Length is as bad as an unreadable one, before anything else
abbrev pub framing_by : ℕ → ℕ → List (List ℕ) → List (List ℕ) → Result Framing Bad
framing_by max_body minor [] lengths = framing_by_length max_body lengths
framing_by max_body minor (coding ∷ codings) [] = framing_by_coding max_body minor (coding ∷ codings)
framing_by max_body minor (coding ∷ codings) (value ∷ values) = Err bads.Length

-- how the fields frame the body, or what is bad in them
abbrev pub framing_of : ℕ → ℕ → Fields → Result Framing Bad
framing_of max_body minor fields =
    framing_by max_body minor (values_of (codes "transfer-encoding") fields) (values_of (codes "content-length") fields)

abbrev pub head_framing : ℕ → RequestHead → Result Framing Bad
head_framing max_body head = framing_of max_body head.minor (head_fields head.fields)

-- the most bytes of a body of that framing
abbrev pub most_of : Framing → ℕ
most_of (Length n) = n
most_of (Chunked most) = most

-- ---- chunked texts

-- 1 to 8 hexadecimal digits
pub record IsSize (digits : List ℕ) : Type 0 where
  pub some : 0 < length digits
  pub few : length digits ≤ 8
  pub hex : AllPass is_ascii_hexdigit digits

-- a size and its data
pub record Chunk : Type 0 where
  pub digits : List ℕ
  pub data_bytes : List ℕ

-- <size> CR LF <data> CR LF
abbrev pub print_chunk : Chunk → List ℕ
print_chunk c = c.digits ++ (crlf_bytes ++ (c.data_bytes ++ crlf_bytes))

-- the size is the number of the data's bytes, which isn't 0
pub record IsChunk (c : Chunk) : Type 0 where
  pub size : IsSize c.digits
  pub some : 0 < length c.data_bytes
  pub same : digits_value 16 c.digits ≡ length c.data_bytes

-- a size of 0
pub record IsZero (digits : List ℕ) : Type 0 where
  pub size : IsSize digits
  pub zero : digits_value 16 digits ≡ 0

abbrev pub chunks_text : List Chunk → List ℕ
chunks_text chunks = flat_map print_chunk chunks

abbrev pub chunks_data : List Chunk → List ℕ
chunks_data chunks = flat_map (λ c. c.data_bytes) chunks

-- the text is chunks and an end, and the body their data joined
pub record IsChunked (text body : List ℕ) : Type 0 where
  pub chunks : List Chunk
  pub zeros : List ℕ
  pub each : All IsChunk chunks
  pub last : IsZero zeros
  pub cut : text ≡ chunks_text chunks ++ (zeros ++ (crlf_bytes ++ crlf_bytes))
  pub joined : body ≡ chunks_data chunks

-- no continuation is such a text
abbrev pub NeverChunked : List ℕ → Type 0
NeverChunked text = (more body : List ℕ) → ¬ (IsChunked (text ++ more) body)

-- such a text goes on behind these bytes
pub record IsFrontOfChunked (text : List ℕ) : Type 0 where
  pub more : List ℕ
  pub body : List ℕ
  pub some : 0 < length more
  pub chunked : IsChunked (text ++ more) body

-- behind some chunks stands a whole size line that takes the sum over the limit
pub record ExceedsLimit (max_body : ℕ) (text : List ℕ) : Type 0 where
  pub chunks : List Chunk
  pub digits : List ℕ
  pub rest : List ℕ
  pub each : All IsChunk chunks
  pub size : IsSize digits
  pub cut : text ≡ chunks_text chunks ++ (digits ++ (crlf_bytes ++ rest))
  pub over : max_body < length (chunks_data chunks) + digits_value 16 digits

-- a byte after which no continuation is a chunked text, if the bytes before it had one
pub record IsBroken (max_body : ℕ) (text : List ℕ) : Type 0 where
  pub before : List ℕ
  pub byte : ℕ
  pub rest : List ℕ
  pub cut : text ≡ before ++ byte ∷ rest
  pub under : ¬ (ExceedsLimit max_body before)
  pub front : IsFrontOfChunked before
  pub never : NeverChunked (before ++ byte ∷ [])

-- ---- bodies

-- the text is a whole body of that framing
abbrev pub IsBodyText : Framing → List ℕ → List ℕ → Type 0
IsBodyText (Length n) text body = (text ≡ body) × (length body ≡ n)
IsBodyText (Chunked most) text body = IsChunked text body × (length body ≤ most)

-- the text is refused as a body of that framing, and so bad
abbrev pub IsBadBody : Framing → List ℕ → Bad → Type 0
IsBadBody (Length n) text bad = ⊥
IsBadBody (Chunked most) text bad =
    ((bad ≡ bads.TooLarge) × ExceedsLimit most text) ⊎ ((bad ≡ bads.Chunks) × IsBroken most text)

-- the text ends inside a body of that framing
abbrev pub IsCutBody : Framing → List ℕ → Type 0
IsCutBody (Length n) text = length text < n
IsCutBody (Chunked most) text = IsFrontOfChunked text × ¬ (ExceedsLimit most text)
