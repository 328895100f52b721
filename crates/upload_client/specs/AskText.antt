-- The requests that a client writes (OCI Distribution Specification 1.1, section "Endpoints"; RFC 9112, section 3).
use Rattle.std.specs.Prelude.{ℕ, ◌&&◌, nat_lt, Bool, bytes_eq, List, [], ◌∷◌, ◌++◌, length, codes, decimal, flat_map}
use Rattle.std.specs.Prelude.{Option, Some, None, if◌then◌else◌}
use Rattle.std.specs.List.{list_all}
use Rattle.std.specs.Char.{is_ascii_graphic}
use Rattle.httparse.specs.Ascii.{crlf_bytes}
use Rattle.upload_names.specs.Digest.{Digest, digest_text}
use Rattle.upload_names.specs.ByteRange.{Span}
use Rattle.upload_names.specs.Reference.{reference_text}
use Rattle.upload_service.specs.declared.ask.Ask.{Ask}
use Rattle.upload_service.specs.declared.ask.Ask.TheVariants.{Base, Has, Opening, Single, Mount, Chunk, Status, Close}
use Rattle.upload_service.specs.declared.ask.Ask.TheVariants.{Refused}
use Rattle.upload_service.specs.declared.ask.Extent.{Extent}
use Rattle.upload_service.specs.declared.ask.Extent.TheVariants.{Absent, Bad, Given}
use Rattle.upload_client.specs.declared.transport.LentChunk.{LentChunk}
use Rattle.upload_texts.specs.Paths.{blob_path, upload_path}
use Rattle.http_wire.specs.HeadText.{HeadField, print_field, length_field}

-- what a request is made of, beside its Host
pub record Message : Type 0 where
  pub method : List ℕ
  pub path : List ℕ
  pub query : Option (List ℕ)
  pub fields : List HeadField
  pub body : List ℕ

-- ?<query>
abbrev pub query_text : Option (List ℕ) → List ℕ
query_text None = []
query_text (Some query) = codes "?" ++ query

-- <path>?<query>
abbrev pub target_of : Message → List ℕ
target_of m = m.path ++ query_text m.query

-- <method> <target>
abbrev pub request_line : Message → List ℕ
request_line m = m.method ++ (codes " " ++ target_of m)

-- the version, and Host: <host>
abbrev pub host_text : List ℕ → List ℕ
host_text host = codes " HTTP/1.1\r\nHost: " ++ (host ++ crlf_bytes)

-- the fields and an empty line
abbrev pub section_text : List HeadField → List ℕ
section_text fields = flat_map print_field fields ++ crlf_bytes

-- the request to a host
abbrev pub print_message : Message → List ℕ → List ℕ
print_message m host = request_line m ++ (host_text host ++ (section_text m.fields ++ m.body))

-- the fields of a body
abbrev pub ask_body_fields : List ℕ → List HeadField
ask_body_fields body = (codes "Content-Type", codes "application/octet-stream") ∷ length_field (length body) ∷ []

-- <first>-<last>
abbrev pub range_text : Span → List ℕ
range_text range = decimal range.first ++ (codes "-" ++ decimal range.last)

-- Content-Range, if a range is given
abbrev pub content_range_fields : Extent → List HeadField
content_range_fields Absent = []
content_range_fields Bad = []
content_range_fields (Given range) = (codes "Content-Range", range_text range) ∷ []

-- the text of a digest, or nothing
abbrev pub digest_or_nothing : Option Digest → List ℕ
digest_or_nothing None = []
digest_or_nothing (Some digest) = digest_text digest

-- digest=<digest>, if there is one
abbrev pub digest_query : Option Digest → Option (List ℕ)
digest_query None = None
digest_query (Some digest) = Some (codes "digest=" ++ digest_text digest)

-- a request without a body
abbrev pub bare_message : List ℕ → List ℕ → Message
bare_message method path = record { method = method; path = path; query = None; fields = []; body = [] }

-- a POST without a body to the uploads of a repository
abbrev pub post_message : List ℕ → Option (List ℕ) → Message
post_message name query = record {
  method = codes "POST";
  path = upload_path name [];
  query = query;
  fields = (codes "Content-Length", codes "0") ∷ [];
  body = [];
}

-- GET or HEAD
abbrev pub look_method : Bool → List ℕ
look_method head = if head then codes "HEAD" else codes "GET"

-- the request of an ask; a Refused is never written
abbrev pub message_of : Ask → Message
message_of Base = bare_message (codes "GET") (codes "/v2/")
message_of (Has name digest head) = bare_message (look_method head) (blob_path name (digest_text digest))
message_of (Opening name) = post_message name None
message_of (Single name digest body) = record {
  method = codes "POST";
  path = upload_path name [];
  query = Some (codes "digest=" ++ digest_or_nothing digest);
  fields = ask_body_fields body;
  body = body;
}
message_of (Mount name digest source) =
    post_message name (Some (codes "mount=" ++ (digest_text digest ++ (codes "&from=" ++ source))))
message_of (Chunk name at range body) = record {
  method = codes "PATCH";
  path = upload_path name (reference_text at);
  query = None;
  fields = content_range_fields range ++ ask_body_fields body;
  body = body;
}
message_of (Status name at) = bare_message (codes "GET") (upload_path name (reference_text at))
message_of (Close name at range digest body) = record {
  method = codes "PUT";
  path = upload_path name (reference_text at);
  query = digest_query digest;
  fields = content_range_fields range ++ ask_body_fields body;
  body = body;
}
message_of (Refused refusal) = bare_message [] []

-- the ask of a chunk that is lent
abbrev pub ask_of_chunk : LentChunk → Ask
ask_of_chunk chunk = Chunk chunk.name.now chunk.at chunk.range chunk.body.now

-- the method is HEAD, whose reply has no body
abbrev pub wants_head : Ask → Bool
wants_head ask = bytes_eq (message_of ask).method (codes "HEAD")

-- what a client writes to ask a host
abbrev pub ask_text : Ask → List ℕ → List ℕ
ask_text ask host = print_message (message_of ask) host

-- visible ASCII bytes, at least one
abbrev pub is_host : List ℕ → Bool
is_host host = nat_lt 0 (length host) && list_all is_ascii_graphic host

-- no range of another form than that of Content-Range
abbrev pub IsAbsentOrGiven : Extent → Type 0
IsAbsentOrGiven Absent = Unit {0}
IsAbsentOrGiven Bad = ⊥
IsAbsentOrGiven (Given range) = Unit {0}

-- an ask that a client may write
abbrev pub CanBeWritten : Ask → Type 0
CanBeWritten Base = Unit {0}
CanBeWritten (Has name digest head) = Unit {0}
CanBeWritten (Opening name) = Unit {0}
CanBeWritten (Single name digest body) = Unit {0}
CanBeWritten (Mount name digest source) = Unit {0}
CanBeWritten (Chunk name at range body) = IsAbsentOrGiven range
CanBeWritten (Status name at) = Unit {0}
CanBeWritten (Close name at range digest body) = IsAbsentOrGiven range
CanBeWritten (Refused refusal) = ⊥
