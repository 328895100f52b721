-- The text of a head that is written: its status, its fields, and an empty line (RFC 9112, sections 4 and 5; RFC 9110,
-- section 15, for the numbers and the reasons).
use Rattle.std.specs.Prelude.{ℕ, Bool, false, List, [], ◌∷◌, ◌++◌, codes, decimal, flat_map, if◌then◌else◌}
use Rattle.httparse.specs.Ascii.{crlf_bytes}
use Rattle.http_wire.specs.declared.fault.Bad.{Bad}
use Rattle.http_wire.specs.declared.fault.Bad.TheVariants as bads
use Rattle.http_wire.specs.declared.status.Status.{Status}
use Rattle.http_wire.specs.declared.status.Status.TheVariants as statuses

-- the number of a status
abbrev pub status_number : Status → ℕ
status_number statuses.Ok = 200
status_number statuses.Created = 201
status_number statuses.Accepted = 202
status_number statuses.NoContent = 204
status_number statuses.BadRequest = 400
status_number statuses.NotFound = 404
status_number statuses.MethodNotAllowed = 405
status_number statuses.LengthRequired = 411
status_number statuses.ContentTooLarge = 413
status_number statuses.RangeNotSatisfiable = 416
status_number statuses.TooManyRequests = 429
status_number statuses.HeaderFieldsTooLarge = 431
status_number statuses.ServiceUnavailable = 503

-- a field, as its name and its value
abbrev pub HeadField : Type 0
HeadField = List ℕ × List ℕ

-- name: value
abbrev pub print_field : HeadField → List ℕ
print_field (name, value) = name ++ (codes ": " ++ (value ++ crlf_bytes))

-- the number and the reason of a status
abbrev pub status_text : Status → List ℕ
status_text statuses.Ok = codes "200 OK"
status_text statuses.Created = codes "201 Created"
status_text statuses.Accepted = codes "202 Accepted"
status_text statuses.NoContent = codes "204 No Content"
status_text statuses.BadRequest = codes "400 Bad Request"
status_text statuses.NotFound = codes "404 Not Found"
status_text statuses.MethodNotAllowed = codes "405 Method Not Allowed"
status_text statuses.LengthRequired = codes "411 Length Required"
status_text statuses.ContentTooLarge = codes "413 Content Too Large"
status_text statuses.RangeNotSatisfiable = codes "416 Range Not Satisfiable"
status_text statuses.TooManyRequests = codes "429 Too Many Requests"
status_text statuses.HeaderFieldsTooLarge = codes "431 Request Header Fields Too Large"
status_text statuses.ServiceUnavailable = codes "503 Service Unavailable"

-- HTTP/1.1 <status>
abbrev pub status_line : Status → List ℕ
status_line status = codes "HTTP/1.1 " ++ (status_text status ++ crlf_bytes)

-- the field that closes the connection
abbrev pub closing_fields : Bool → List HeadField
closing_fields keep = if keep then [] else (codes "Connection", codes "close") ∷ []

-- the status line, the fields, and an empty line
abbrev pub print_head : Status → List HeadField → Bool → List ℕ
print_head status fields keep =
    status_line status ++ (flat_map print_field (fields ++ closing_fields keep) ++ crlf_bytes)

-- Content-Length: <count>
abbrev pub length_field : ℕ → HeadField
length_field count = (codes "Content-Length", decimal count)

-- the status of the response to what is no request, by what is bad in it
abbrev pub bad_status : Bad → Status
bad_status bads.Head = statuses.BadRequest
bad_status bads.LongHead = statuses.HeaderFieldsTooLarge
bad_status bads.Length = statuses.BadRequest
bad_status bads.TooLarge = statuses.ContentTooLarge
bad_status bads.Coding = statuses.LengthRequired
bad_status bads.Chunks = statuses.BadRequest

-- the response to what is no request
abbrev pub bad : Bad → List ℕ
bad why = print_head (bad_status why) (length_field 0 ∷ []) false
