-- The text of each ask is a request of the same ask.
use Rattle.std.proofs.Common.{◌≡◌, ℕ, ◌+◌, ◌≤◌, Bool, true, false, codes, List, [], ◌∷◌, ◌++◌, length}
use Rattle.std.proofs.Common.{get_or, refl, arith, ◌∙◌, sym, ap, subst, IfSome, Option, Some, None, inr, rules}
use Rattle.std.proofs.Common.{append_assoc, length-append, nat_lt}
use Rattle.std.specs.Prelude.{bytes_eq, option_and_then, unwrap_or}
use Rattle.std.specs.List.{flat_map, list_all}
use Rattle.std.specs.Borrow.{Bor}
use Rattle.std.proofs.lemmas.Bool.Decides.{nat_tests}
use Rattle.std.proofs.lemmas.List.Sums.{AllPass-from_list_all}
use Rattle.std.proofs.lemmas.Str.{IsUtf8-from_ascii}
use Rattle.std.proofs.lemmas.Str.Ascii.{IsAscii-from_all}
use Rattle.httparse.specs.Ascii.{crlf_bytes}
use Rattle.httparse.specs.Grammar.{IsToken, RequestHead, is_token_byte, is_uri_byte, print_request}
use Rattle.upload_names.specs.NamePass.{is_name}
use Rattle.upload_names.specs.Digest.{Digest, IsDigest, digest_of, digest_text}
use Rattle.upload_names.specs.Reference.{reference_of, reference_text}
use Rattle.upload_names.proofs.DigestFacts.{digest_of-text}
use Rattle.upload_names.proofs.ReferenceFacts.{reference_of-text}
use Rattle.upload_names.proofs.ReferenceTexts.{length-reference_text}
use Rattle.upload_service.specs.declared.ask.Ask.{Ask}
use Rattle.upload_service.specs.declared.ask.Ask.TheVariants.{Base, Has, Opening, Single, Mount, Chunk, Status, Close}
use Rattle.upload_service.specs.declared.ask.Ask.TheVariants.{Refused}
use Rattle.upload_service.specs.declared.ask.Extent.{Extent}
use Rattle.upload_service.specs.declared.ask.Extent.TheVariants.{Absent}
use Rattle.upload_wire.specs.declared.asks.PathForm.{PathForm}
use Rattle.upload_wire.specs.declared.asks.PathForm.TheVariants as Path
use Rattle.http_wire.specs.declared.body.Framing.TheVariants.{Length}
use Rattle.http_wire.specs.Fronts.{max_fields, max_head, line_feeds, ReadsHead, requests}
use Rattle.http_wire.specs.HeadText.{print_field}
use Rattle.http_wire.proofs.Heads.HeadLemmas.{line_feeds-append}
use Rattle.http_wire.specs.Query.{parameter}
use Rattle.http_wire.specs.Fields.{Fields, values_of, keeps_connection, head_fields}
use Rattle.http_wire.specs.Body.{framing_of}
use Rattle.upload_wire.specs.RequestText.{IsRequest}
use Rattle.upload_wire.specs.Target.{IsFormOf, ask_of_form, with_body, extent_of, method_of, HeadAsks}
use Rattle.upload_texts.specs.Paths.{upload_path}
use Rattle.upload_client.specs.AskText.{Message, message_of, target_of, query_text}
use Rattle.upload_client.specs.AskText.{digest_query, digest_or_nothing, CanBeWritten, ask_text}
use Rattle.wire_laws.specs.WrittenAsks.{AsksAreReadBack, IsReference}
use Rattle.wire_laws.specs.WrittenAsks.{written_style}
use Rattle.wire_laws.specs.WrittenExchanges.{MayBeAsked}
use Rattle.upload_texts.proofs.PlainTexts.{IsPlain, IsParameters, IsTarget, is_plain_byte, AllPass-nil, name_plain}
use Rattle.upload_texts.proofs.PlainTexts.{digest_tail, digest_plain, reference_tail, blob_plain, uploads_plain}
use Rattle.upload_texts.proofs.PlainTexts.{upload_plain, line_bytes, ascii_bytes}
use Rattle.wire_laws.proofs.WrittenTargets.{HasNoSlash-tail, spelled, target_bytes, nonempty}
use Rattle.wire_laws.proofs.WrittenQueries.{digest_parameters, digest_parameter, mount_parameters, mount_parameter}
use Rattle.wire_laws.proofs.WrittenQueries.{no_parameter}
use Rattle.wire_laws.proofs.ReplyHeads.{feeds, no_feed_token, no_feeds}
use Rattle.wire_laws.proofs.WrittenHeads.{IsSendable, field_of, head_of, head_printed, sent_fields, reads_head}
use Rattle.wire_laws.proofs.WrittenHeads.{values_kept, printed}
use Rattle.wire_laws.proofs.WrittenFields.{AreRead, bare_read, post_read, body_read, upload_read}

-- ---- messages

longer : (a t r : List ℕ) (x : ℕ) → length t ≤ length (a ++ x ∷ (t ++ r))
longer a t r x = omega (arith, length-append a (x ∷ (t ++ r)), length-append t r)

target_short : (m : Message) (host : List ℕ) → length (print_request (head_of m host)) ≤ max_head
    → length (target_of m) ≤ 65534
unfolding print_request
target_short m host h = search (rules, arith, field_of, sent_fields, head_of, append_assoc, longer)

-- what is asked of the form, with these fields and this body
abbrev asked : Message → PathForm → Extent → Ask
asked m form range = with_body (ask_of_form form (method_of m.method) (unwrap_or m.query []) range) m.body

-- the message of an ask is read as the ask
record ReadsAs (max_body : ℕ) (ask : Ask) (host : List ℕ) : Type 0 where
  range : Extent
  form : PathForm
  path : IsPlain (message_of ask).path
  slash : get_or (message_of ask).path 0 0 ≡ 47
  query : IfSome (message_of ask).query IsParameters
  fields : AreRead max_body (sent_fields (message_of ask) host) (length (message_of ask).body) range
  form_is : IsFormOf (message_of ask).path form
  asks : ask ≡ asked (message_of ask) form range

token : (method : List ℕ) → nat_lt 0 (length method) ≡ true → list_all is_token_byte method ≡ true → IsToken method
token method some h = (grind (arith, nat_tests), AllPass-from_list_all is_token_byte method h)

method_token : (ask : Ask) → CanBeWritten ask → IsToken (message_of ask).method
unfolding is_token_byte
method_token ask = search (rules, arith, token)

head_short : {max_body : ℕ} {ask : Ask} {host : List ℕ} → MayBeAsked max_body ask host
    → length (print_request (head_of (message_of ask) host)) ≤ max_head
head_short {max_body} {ask} {host} may = subst (λ t. length t ≤ max_head) (printed (message_of ask) host) may.short

sendable : {max_body : ℕ} {ask : Ask} {host : List ℕ} → MayBeAsked max_body ask host → ReadsAs max_body ask host
    → IsSendable (message_of ask) host
sendable {max_body} {ask} may h =
    let m : Message = message_of ask in
    let bytes : IsTarget (target_of m) = target_bytes m.path m.query h.path h.query in
    record {
      method = method_token ask may.writable;
      target = (
        omega (arith, nonempty m.path h.slash, length-append m.path (query_text m.query)),
        line_bytes (target_of m) bytes,
      );
      target_text = IsUtf8-from_ascii (target_of m) (IsAscii-from_all (target_of m) (ascii_bytes (target_of m) bytes));
      fields = h.fields.plain;
      few = h.fields.few;
      short = head_short may;
    }

-- such a message is a request of that ask
read_as : {max_body : ℕ} {ask : Ask} {host : List ℕ} → MayBeAsked max_body ask host → ReadsAs max_body ask host
    → IsRequest max_body (ask_text ask host) ask (written_style ask)
read_as {max_body} {ask} {host} may h =
    let m : Message = message_of ask in
    let fields = sent_fields m host in
    let kept : head_fields (head_of m host).fields ≡ fields = values_kept fields h.fields.plain in
    let s = spelled m.path m.query h.path h.slash h.query (target_short m host (head_short may)) in
    let ranged : extent_of (values_of (codes "content-range") (head_fields (head_of m host).fields)) ≡ h.range =
    ap (λ f. extent_of (values_of (codes "content-range") f)) kept ∙ h.fields.range_is in
    let bare = ask_of_form h.form (method_of m.method) (unwrap_or m.query []) h.range in
    let asks : HeadAsks m.method (target_of m) h.range bare =
    inr (s.uri, s.spells, (h.form, rw s.path_is h.form_is, rw s.query_is refl)) in
    record {
      head = head_of m host;
      rest = m.body;
      reads = reads_head m host (sendable may h);
      framing = Length (length m.body);
      framed = ap (framing_of max_body 1) kept ∙ h.fields.framed;
      body = m.body;
      written = (refl, refl);
      asks = (bare, subst (λ r. HeadAsks m.method (target_of m) r bare) (sym ranged) asks, h.asks);
      styled =
          ap (λ k. record { head = bytes_eq m.method (codes "HEAD"); keep = k })
          (sym (ap (keeps_connection 1) kept ∙ h.fields.keeps));
    }

-- ---- forms

-- a text, as a form of a path holds it
abbrev held : List ℕ → Bor (List ℕ)
held text = record { ref_ptr = (0, 0); now = text }

abbrev at_blob : List ℕ → Digest → PathForm
at_blob name digest = Path.Blob (held name) (held (digest_text digest))

abbrev at_uploads : List ℕ → PathForm
at_uploads name = Path.Uploads (held name)

abbrev at_upload : List ℕ → List ℕ → PathForm
at_upload name at = Path.Upload (held name) (held (reference_text at))

is_upload : (name at : List ℕ) → IsFormOf (upload_path name (reference_text at)) (at_upload name at)
is_upload name at = search (rules, arith, HasNoSlash-tail, reference_tail, length-reference_text)

reference_read : (at : List ℕ) → IsReference at → reference_of (reference_text at) ≡ Some at
reference_read at h = reference_of-text at h.sized h.bytes

-- ---- the asks

has_asked : (name : List ℕ) (digest : Digest) (head : Bool) → is_name name ≡ true → IsDigest digest
    → Has name digest head ≡ asked (message_of (Has name digest head)) (at_blob name digest) Absent
has_asked name digest true n d = rw (n, digest_of-text digest d) refl
has_asked name digest false n d = rw (n, digest_of-text digest d) refl

digest_or_nothing_plain : (digest : Option Digest) → IfSome digest IsDigest → IsPlain (digest_or_nothing digest)
digest_or_nothing_plain None d = AllPass-nil is_plain_byte
digest_or_nothing_plain (Some digest) d = digest_plain digest d

nothing_read : digest_of [] ≡ None
unfolding digest_of
nothing_read = refl

digest_or_nothing_read : (digest : Option Digest) → IfSome digest IsDigest
    → digest_of (digest_or_nothing digest) ≡ digest
digest_or_nothing_read None d = nothing_read
digest_or_nothing_read (Some digest) d = digest_of-text digest d

close_parameters : (digest : Option Digest) → IfSome digest IsDigest → IfSome (digest_query digest) IsParameters
close_parameters None d = tt
close_parameters (Some digest) d = digest_parameters (digest_text digest) (digest_plain digest d)

-- the digest that a close's query gives
closing_digest : (digest : Option Digest) → IfSome digest IsDigest
    → option_and_then digest_of (parameter (codes "digest") (unwrap_or (digest_query digest) [])) ≡ digest
closing_digest None d = ap (option_and_then digest_of) (no_parameter (codes "digest"))
closing_digest (Some digest) d =
    ap (option_and_then digest_of) (digest_parameter (digest_text digest) (digest_plain digest d)).1
    ∙ digest_of-text digest d

reads_as : (max_body : ℕ) (ask : Ask) (host : List ℕ) → MayBeAsked max_body ask host → ReadsAs max_body ask host
reads_as max_body Base host may = record {
  range = Absent;
  form = Path.Base;
  path = AllPass-from_list_all is_plain_byte (codes "/v2/") refl;
  slash = refl;
  query = tt;
  fields = bare_read max_body host may.to_host;
  form_is = refl;
  asks = refl;
}
reads_as max_body (Has name digest head) host may =
    let n : is_name name ≡ true = may.parts.0 in
    let d : IsDigest digest = may.parts.1 in
    record {
      range = Absent;
      form = at_blob name digest;
      path = blob_plain name digest n d;
      slash = refl;
      query = tt;
      fields = bare_read max_body host may.to_host;
      form_is = (refl, HasNoSlash-tail (digest_text digest) (digest_tail digest d));
      asks = has_asked name digest head n d;
    }
reads_as max_body (Opening name) host may =
    let n : is_name name ≡ true = may.parts in
    record {
      range = Absent;
      form = at_uploads name;
      path = uploads_plain name n;
      slash = refl;
      query = tt;
      fields = post_read max_body host may.to_host;
      form_is = refl;
      asks = rw (n, no_parameter (codes "mount"), no_parameter (codes "digest")) refl;
    }
reads_as max_body (Single name digest body) host may =
    let n : is_name name ≡ true = may.parts.0 in
    let d : IfSome digest IsDigest = may.parts.1 in
    let plain = digest_or_nothing_plain digest d in
    let given = digest_parameter (digest_or_nothing digest) plain in
    record {
      range = Absent;
      form = at_uploads name;
      path = uploads_plain name n;
      slash = refl;
      query = digest_parameters (digest_or_nothing digest) plain;
      fields = body_read max_body host body may.to_host may.fits may.limit;
      form_is = refl;
      asks = rw (n, given.0, given.1, digest_or_nothing_read digest d) refl;
    }
reads_as max_body (Mount name digest source) host may =
    let n : is_name name ≡ true = may.parts.0 in
    let d : IsDigest digest = may.parts.1 in
    let s : is_name source ≡ true = may.parts.2 in
    let given = mount_parameter (digest_text digest) source (digest_plain digest d) (name_plain source s) in
    record {
      range = Absent;
      form = at_uploads name;
      path = uploads_plain name n;
      slash = refl;
      query = mount_parameters (digest_text digest) source (digest_plain digest d) (name_plain source s);
      fields = post_read max_body host may.to_host;
      form_is = refl;
      asks = rw (n, given.0, given.1, digest_of-text digest d, s) refl;
    }
reads_as max_body (Chunk name at range body) host may =
    let n : is_name name ≡ true = may.parts.0 in
    record {
      range = range;
      form = at_upload name at;
      path = upload_plain name at n;
      slash = refl;
      query = tt;
      fields = upload_read max_body host range body may.to_host may.writable may.parts.2 may.fits may.limit;
      form_is = is_upload name at;
      asks = rw (n, reference_read at may.parts.1) refl;
    }
reads_as max_body (Status name at) host may =
    let n : is_name name ≡ true = may.parts.0 in
    record {
      range = Absent;
      form = at_upload name at;
      path = upload_plain name at n;
      slash = refl;
      query = tt;
      fields = bare_read max_body host may.to_host;
      form_is = is_upload name at;
      asks = rw (n, reference_read at may.parts.1) refl;
    }
reads_as max_body (Close name at range digest body) host may =
    let n : is_name name ≡ true = may.parts.0 in
    record {
      range = range;
      form = at_upload name at;
      path = upload_plain name at n;
      slash = refl;
      query = close_parameters digest may.parts.3;
      fields = upload_read max_body host range body may.to_host may.writable may.parts.2 may.fits may.limit;
      form_is = is_upload name at;
      asks = rw (n, reference_read at may.parts.1, closing_digest digest may.parts.3) refl;
    }
reads_as max_body (Refused refusal) host may = absurd may.writable

-- ---- the law

pub asked_request : {max_body : ℕ} {ask : Ask} {host : List ℕ} → MayBeAsked max_body ask host
    → IsRequest max_body (ask_text ask host) ask (written_style ask)
asked_request {max_body} {ask} {host} may = read_as may (reads_as max_body ask host may)

pub asks_read_back : AsksAreReadBack
asks_read_back max_body ask host limit written parts h short fits = search (rules, arith, asked_request)

-- ---- its lines

-- the head of a message that can be sent has a line for each field, its first line and an empty one
lines_of : (m : Message) (host : List ℕ) → IsSendable m host
    → line_feeds (print_request (head_of m host)) ≤ max_fields + 2
lines_of m host h =
    let fields : Fields = sent_fields m host in
    let few = h.few in
    omega (
      arith,
      few,
      ap line_feeds (head_printed m.method (target_of m) fields),
      no_feeds is_token_byte m.method no_feed_token h.method.1,
      no_feeds is_uri_byte (target_of m) refl h.target.1,
      feeds fields h.fields,
      line_feeds-append m.method (codes " "
          ++ (target_of m ++ (codes " HTTP/1.1" ++ (crlf_bytes ++ (flat_map print_field fields ++ crlf_bytes))))),
      line_feeds-append (codes " ")
          (target_of m ++ (codes " HTTP/1.1" ++ (crlf_bytes ++ (flat_map print_field fields ++ crlf_bytes)))),
      line_feeds-append (target_of m)
          (codes " HTTP/1.1" ++ (crlf_bytes ++ (flat_map print_field fields ++ crlf_bytes))),
      line_feeds-append (codes " HTTP/1.1") (crlf_bytes ++ (flat_map print_field fields ++ crlf_bytes)),
      line_feeds-append crlf_bytes (flat_map print_field fields ++ crlf_bytes),
      line_feeds-append (flat_map print_field fields) crlf_bytes,
    )

-- the head of an ask that is written, and what follows it
pub record HeadWritten (ask : Ask) (host : List ℕ) : Type 0 where
  pub head : RequestHead
  pub rest : List ℕ
  pub reads : ReadsHead requests (ask_text ask host) head rest
  pub lines : line_feeds (print_request head) ≤ max_fields + 2

pub heads_written : {max_body : ℕ} {ask : Ask} {host : List ℕ} → MayBeAsked max_body ask host → HeadWritten ask host
heads_written {max_body} {ask} {host} may =
    let can = sendable may (reads_as max_body ask host may) in
    record {
      head = head_of (message_of ask) host;
      rest = (message_of ask).body;
      reads = reads_head (message_of ask) host can;
      lines = lines_of (message_of ask) host can;
    }
