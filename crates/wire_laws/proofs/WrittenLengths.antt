-- The heads that a client writes to a host that isn't too long keep the limit of heads.
use Rattle.std.proofs.Common.{◌≡◌, ℕ, ◌<◌, ◌≤◌, true, false, codes, List, ◌++◌, length, arith, lit≤, rules}
use Rattle.std.proofs.Common.{IfSome, Option, Some, None, length-append}
use Rattle.std.specs.Prelude.{decimal, flat_map, ◌^◌}
use Rattle.std.proofs.lemmas.Fmt.{length-decimal-le}
use Rattle.httparse.specs.Ascii.{crlf_bytes}
use Rattle.upload_names.specs.Digest.{Digest, IsDigest, digest_text}
use Rattle.upload_names.specs.NamePass.{is_name}
use Rattle.upload_names.specs.Reference.{reference_text}
use Rattle.upload_names.proofs.ReferenceTexts.{length-reference_text}
use Rattle.upload_service.specs.declared.ask.Ask.{Ask}
use Rattle.upload_service.specs.declared.ask.Ask.TheVariants.{Base, Has, Opening, Single, Mount, Chunk, Status, Close}
use Rattle.upload_service.specs.declared.ask.Ask.TheVariants.{Refused}
use Rattle.upload_service.specs.declared.ask.Extent.{Extent}
use Rattle.upload_texts.specs.Paths.{blob_path, upload_path}
use Rattle.http_wire.specs.Fronts.{max_head}
use Rattle.http_wire.specs.HeadText.{HeadField, print_field}
use Rattle.upload_client.specs.AskText.{Message, ask_body_fields, content_range_fields, digest_or_nothing, digest_query}
use Rattle.upload_client.specs.AskText.{host_text, message_of, query_text, request_line, section_text}
use Rattle.upload_client.specs.AskText.{target_of}
use Rattle.wire_laws.specs.WrittenAsks.{HasLawfulParts, HasSpan, body_text}
use Rattle.wire_laws.specs.WrittenExchanges.{AsksMayBeAsked, longest_host}
use Rattle.wire_laws.proofs.ReplyFields.{digest_length, name_length}

-- ---- the parts of a head

record IsShort (m : Message) : Type 0 where
  method : length m.method ≤ 5
  path : length m.path ≤ 420
  query : length (query_text m.query) ≤ 420
  fields : length (flat_map print_field m.fields) ≤ 300

short_head : (m : Message) (host : List ℕ) → IsShort m → length host ≤ longest_host
    → length (request_line m ++ (host_text host ++ section_text m.fields)) ≤ max_head
short_head m host s h =
    omega (
      arith,
      length-append (request_line m) (host_text host ++ section_text m.fields),
      length-append m.method (codes " " ++ target_of m),
      length-append m.path (query_text m.query),
      length-append (host_text host) (section_text m.fields),
      length-append host crlf_bytes,
      length-append (flat_map print_field m.fields) crlf_bytes,
    )

-- ---- paths and queries

to_uploads : (name tail : List ℕ) → is_name name ≡ true → length tail ≤ 36 → length (upload_path name tail) ≤ 420
to_uploads name tail n short = omega (arith, name_length name n, length-append name (codes "/blobs/uploads/" ++ tail))

to_upload : (name at : List ℕ) → is_name name ≡ true → length (upload_path name (reference_text at)) ≤ 420
to_upload name at n = to_uploads name (reference_text at) n (omega (arith, length-reference_text at))

to_blob : (name : List ℕ) (digest : Digest) → is_name name ≡ true → IsDigest digest
    → length (blob_path name (digest_text digest)) ≤ 420
to_blob name digest n d =
    omega (
      arith,
      name_length name n,
      digest_length digest d,
      length-append name (codes "/blobs/" ++ digest_text digest),
    )

short_or_nothing : (digest : Option Digest) → IfSome digest IsDigest
    → length (query_text (Some (codes "digest=" ++ digest_or_nothing digest))) ≤ 420
short_or_nothing None d = lit≤ tt
short_or_nothing (Some digest) d = omega (arith, digest_length digest d)

short_query : (digest : Option Digest) → IfSome digest IsDigest → length (query_text (digest_query digest)) ≤ 420
short_query None d = lit≤ tt
short_query (Some digest) d = omega (arith, digest_length digest d)

mount_query : (digest : Digest) (source : List ℕ) → IsDigest digest → is_name source ≡ true
    → length (query_text (Some (codes "mount=" ++ (digest_text digest ++ (codes "&from=" ++ source))))) ≤ 420
mount_query digest source d n =
    omega (
      arith,
      digest_length digest d,
      name_length source n,
      length-append (digest_text digest) (codes "&from=" ++ source),
    )

-- ---- fields

number_length : (n : ℕ) → n < 2 ^ 64 → length (decimal n) ≤ 20
number_length n small = length-decimal-le 20 n (omega arith) (omega arith) small

body_fields : (body : List ℕ) → length body < 2 ^ 64 → length (flat_map print_field (ask_body_fields body)) ≤ 100
body_fields body small =
    omega (
      arith,
      number_length (length body) small,
      length-append (decimal (length body)) crlf_bytes,
      length-append (decimal (length body) ++ crlf_bytes),
    )

range_fields : (range : Extent) → HasSpan range → (fields : List HeadField)
    → length (flat_map print_field fields) ≤ 100
    → length (flat_map print_field (content_range_fields range ++ fields)) ≤ 300
range_fields range h1 fields h2 = search (rules, arith, number_length, length-append)

-- ---- the asks

short_message : (ask : Ask) → HasLawfulParts ask → length (body_text ask) < 2 ^ 64 → IsShort (message_of ask)
short_message Base parts small = omega arith
short_message (Has name digest true) parts small = omega (arith, to_blob name digest parts.0 parts.1)
short_message (Has name digest false) parts small = omega (arith, to_blob name digest parts.0 parts.1)
short_message (Opening name) parts small = omega (arith, to_uploads name)
short_message (Single name digest body) parts small =
    omega (arith, to_uploads name, short_or_nothing digest parts.1, body_fields body small)
short_message (Mount name digest source) parts small =
    omega (arith, to_uploads name, mount_query digest source parts.1 parts.2)
short_message (Chunk name at range body) parts small =
    omega (
      arith,
      to_upload name,
      range_fields range parts.2 (ask_body_fields body) (body_fields body small),
      body_fields body small,
    )
short_message (Status name at) parts small = omega (arith, to_upload name)
short_message (Close name at range digest body) parts small =
    omega (
      arith,
      to_upload name,
      short_query digest parts.3,
      range_fields range parts.2 (ask_body_fields body) (body_fields body small),
      body_fields body small,
    )
short_message (Refused refusal) parts small = omega arith

pub may_be_asked : AsksMayBeAsked
may_be_asked max_body ask host limit writable to_host = search (rules, arith, short_head, short_message)
