-- The body of a response: how far it goes, by its head (RFC 9112, section 6.3), and whether the connection stays behind
-- it (section 9.3).
use Rattle.std.specs.Prelude.{◌≡◌, ℕ, ◌≤◌, Bool, false, ◌||◌, ◌==◌, nat_lt, List, [], ◌∷◌, length, codes, if◌then◌else◌}
use Rattle.std.specs.Prelude.{Result, Ok, Err}
use Rattle.std.specs.Str.Parse.{digits_value}
use Rattle.http_wire.specs.States.{InputState}
use Rattle.http_wire.specs.Reading.{HasEnded}
use Rattle.http_wire.specs.Fields.{Fields, values_of, keeps_connection}
use Rattle.http_wire.specs.Body.{is_number}
use Rattle.http_wire.specs.declared.responses.body.ResponseFraming.{ResponseFraming}
use Rattle.http_wire.specs.declared.responses.body.ResponseFraming.TheVariants.{Length, ToEnd}
use Rattle.http_wire.specs.declared.responses.body.FramingFault.{FramingFault}
use Rattle.http_wire.specs.declared.responses.body.FramingFault.TheVariants as Fault

-- ---- framing

-- a length over the limit is too large
abbrev pub sized_response : ℕ → ℕ → Result ResponseFraming FramingFault
sized_response max_body n = if nat_lt max_body n then Err Fault.TooLarge else Ok (Length n)

-- by the values of Content-Length, for a response that has no body and for one that has
abbrev pub response_framing_by_length : ℕ → Bool → List (List ℕ) → Result ResponseFraming FramingFault
response_framing_by_length max_body empty [] = if empty then Ok (Length 0) else Ok (ToEnd max_body)
response_framing_by_length max_body empty (value ∷ []) =
    if is_number value then (if empty then Ok (Length 0) else sized_response max_body (digits_value 10 value)) else Err
    Fault.Unreadable
response_framing_by_length max_body empty (value ∷ other ∷ values) = Err Fault.Unreadable

-- by the values of Transfer-Encoding: there is none
abbrev pub framing_without_coding : List (List ℕ) → Result ResponseFraming FramingFault
    → Result ResponseFraming FramingFault
framing_without_coding [] framing = framing
framing_without_coding (coding ∷ codings) framing = Err Fault.Unreadable

-- the response to a HEAD, a 204 and a 304 have no body
abbrev pub has_no_body : Bool → ℕ → Bool
has_no_body to_head status = to_head || (status == 204) || (status == 304)

-- how far the body goes, by the method's being HEAD, the status and the fields; a status below 200 is no final response
abbrev pub response_framing_of : ℕ → Bool → ℕ → Fields → Result ResponseFraming FramingFault
response_framing_of max_body to_head status fields =
    if nat_lt status 200 then Err Fault.Unreadable
    else framing_without_coding (values_of (codes "transfer-encoding") fields)
    (response_framing_by_length max_body (has_no_body to_head status) (values_of (codes "content-length") fields))

-- the most bytes that are read of the body
abbrev pub most_of_response : ResponseFraming → ℕ
most_of_response (Length n) = n
most_of_response (ToEnd most) = most

-- they keep the limit
abbrev pub IsFraming : ℕ → ResponseFraming → Type 0
IsFraming max_body framing = most_of_response framing ≤ max_body

-- whether the connection stays behind the response: its version and its fields keep it, and its body doesn't go to the
-- end of the input
abbrev pub keeps_on : ℕ → Fields → ResponseFraming → Bool
keeps_on minor fields (Length n) = keeps_connection minor fields
keeps_on minor fields (ToEnd most) = false

-- ---- bodies

-- the body is as long as its framing says, before what the input holds; one that goes to the end of the input leaves
-- nothing
abbrev pub IsBody : ResponseFraming → List ℕ → InputState → Type 0
IsBody (Length n) body new = length body ≡ n
IsBody (ToEnd most) body new = (length body ≤ most) × (new.held ≡ []) × HasEnded new.source
