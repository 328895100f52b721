-- A written reply is a head of the grammar, with few lines, and a body.
use Rattle.std.proofs.Common.{◌≡◌, ◌≢◌, ℕ, ◌+◌, ◌*◌, ◌≤◌, ◌==◌, Bool, true, false, codes, List, [], ◌∷◌, ◌++◌, All}
use Rattle.std.proofs.Common.{length, map, refl, arith, sym, ap, Some, append_assoc, length-append, lit≤, rules}
use Rattle.std.proofs.lemmas.List.{length-map}
use Rattle.std.proofs.lemmas.List.Sums.{AllPass-from_list_all}
use Rattle.std.proofs.lemmas.Bool.Decides.{nat_tests}
use Rattle.std.proofs.lemmas.List.Elements.{All-weaker, All-head, All-tail, All-map}
use Rattle.std.specs.List.{flat_map, list_all}
use Rattle.std.specs.Char.{is_ascii_digit}
use Rattle.httparse.specs.Grammar.{AllPass, IsField, ResponseHead, crlf, print_response, is_token_byte, is_value_byte}
use Rattle.httparse.specs.Grammar.{status_code}
use Rattle.httparse.specs.Ascii.{crlf_bytes}
use Rattle.http_wire.specs.Fronts.{max_head, max_fields, line_feeds, ReadsHead, responses}
use Rattle.http_wire.specs.Fields.{Fields, head_fields}
use Rattle.http_wire.specs.HeadText.{print_field, status_line, status_number, status_text}
use Rattle.http_wire.specs.declared.status.Status.{Status}
use Rattle.http_wire.specs.declared.status.Status.TheVariants as statuses
use Rattle.http_wire.proofs.Heads.HeadLemmas.{line_feeds-append}
use Rattle.upload_texts.proofs.PlainTexts.{lacks}
use Rattle.wire_laws.proofs.WrittenHeads.{IsPlainField, field_of, field_valid, fields_printed, values_kept}

-- ---- the status line

abbrev digits_of : Status → List ℕ
digits_of statuses.Ok = codes "200"
digits_of statuses.Created = codes "201"
digits_of statuses.Accepted = codes "202"
digits_of statuses.NoContent = codes "204"
digits_of statuses.BadRequest = codes "400"
digits_of statuses.NotFound = codes "404"
digits_of statuses.MethodNotAllowed = codes "405"
digits_of statuses.LengthRequired = codes "411"
digits_of statuses.ContentTooLarge = codes "413"
digits_of statuses.RangeNotSatisfiable = codes "416"
digits_of statuses.TooManyRequests = codes "429"
digits_of statuses.HeaderFieldsTooLarge = codes "431"
digits_of statuses.ServiceUnavailable = codes "503"

abbrev reason_of : Status → List ℕ
reason_of statuses.Ok = codes "OK"
reason_of statuses.Created = codes "Created"
reason_of statuses.Accepted = codes "Accepted"
reason_of statuses.NoContent = codes "No Content"
reason_of statuses.BadRequest = codes "Bad Request"
reason_of statuses.NotFound = codes "Not Found"
reason_of statuses.MethodNotAllowed = codes "Method Not Allowed"
reason_of statuses.LengthRequired = codes "Length Required"
reason_of statuses.ContentTooLarge = codes "Content Too Large"
reason_of statuses.RangeNotSatisfiable = codes "Range Not Satisfiable"
reason_of statuses.TooManyRequests = codes "Too Many Requests"
reason_of statuses.HeaderFieldsTooLarge = codes "Request Header Fields Too Large"
reason_of statuses.ServiceUnavailable = codes "Service Unavailable"

-- a head without fields
abbrev bare_head : Status → ResponseHead
bare_head status = record {
  blank = [];
  minor = 1;
  digits = digits_of status;
  reason = Some (reason_of status);
  line_end = crlf;
  fields = [];
  last = crlf;
}

-- what is to be known of each line
record IsLine (status : Status) : Type 0 where
  cut : status_text status ≡ digits_of status ++ (codes " " ++ reason_of status)
  digits : (length (digits_of status) ≡ 3) × AllPass is_ascii_digit (digits_of status)
  reason : AllPass is_value_byte (reason_of status)
  code : status_number status ≡ status_code (bare_head status)
  short : length (status_line status) ≤ 60
  one : line_feeds (status_line status) ≡ 1

line_of : (status : Status) → list_all is_ascii_digit (digits_of status) ≡ true
    → list_all is_value_byte (reason_of status) ≡ true
    → status_text status ≡ digits_of status ++ (codes " " ++ reason_of status) → length (digits_of status) ≡ 3
    → status_number status ≡ status_code (bare_head status)
    → length (status_line status) ≤ 60 → line_feeds (status_line status) ≡ 1 → IsLine status
line_of status d r cut three code short one = search (rules, arith, AllPass-from_list_all)

is_line : (status : Status) → IsLine status
is_line statuses.Ok = line_of statuses.Ok refl refl refl refl refl (lit≤ tt) refl
is_line statuses.Created = line_of statuses.Created refl refl refl refl refl (lit≤ tt) refl
is_line statuses.Accepted = line_of statuses.Accepted refl refl refl refl refl (lit≤ tt) refl
is_line statuses.NoContent = line_of statuses.NoContent refl refl refl refl refl (lit≤ tt) refl
is_line statuses.BadRequest = line_of statuses.BadRequest refl refl refl refl refl (lit≤ tt) refl
is_line statuses.NotFound = line_of statuses.NotFound refl refl refl refl refl (lit≤ tt) refl
is_line statuses.MethodNotAllowed = line_of statuses.MethodNotAllowed refl refl refl refl refl (lit≤ tt) refl
is_line statuses.LengthRequired = line_of statuses.LengthRequired refl refl refl refl refl (lit≤ tt) refl
is_line statuses.ContentTooLarge = line_of statuses.ContentTooLarge refl refl refl refl refl (lit≤ tt) refl
is_line statuses.RangeNotSatisfiable = line_of statuses.RangeNotSatisfiable refl refl refl refl refl (lit≤ tt) refl
is_line statuses.TooManyRequests = line_of statuses.TooManyRequests refl refl refl refl refl (lit≤ tt) refl
is_line statuses.HeaderFieldsTooLarge = line_of statuses.HeaderFieldsTooLarge refl refl refl refl refl (lit≤ tt) refl
is_line statuses.ServiceUnavailable = line_of statuses.ServiceUnavailable refl refl refl refl refl (lit≤ tt) refl

-- ---- fields

-- a field as it is written, which isn't long
pub record IsShortField (f : List ℕ × List ℕ) : Type 0 where
  pub plain : IsPlainField f
  pub short : length f.0 + length f.1 ≤ 500

pub few_bytes : (fields : Fields) → All IsShortField fields
    → length (flat_map print_field fields) ≤ 504 * length fields
few_bytes [] h = omega arith
few_bytes ((name, value) ∷ fields) h =
    grind (arith, All-head, All-tail, length-append, few_bytes fields (All-tail IsShortField (name, value) fields h))

not_feed : (b : ℕ) → b ≢ 10 → (b == 10) ≡ false
not_feed b h = grind (arith, nat_tests)

pub no_feeds : (test : ℕ → Bool) (text : List ℕ) → test 10 ≡ false → AllPass test text → line_feeds text ≡ 0
no_feeds test text refused h = go text (lacks test 10 text refused h)
  where
    go : (text : List ℕ) → All (λ b. b ≢ 10) text → line_feeds text ≡ 0
    go [] h = refl
    go (b ∷ text) h =
        let no = not_feed b (All-head (λ b. b ≢ 10) b text h) in
        rw no (go text (All-tail (λ b. b ≢ 10) b text h))

pub no_feed_token : is_token_byte 10 ≡ false
unfolding is_token_byte
no_feed_token = refl

one_feed : (f : List ℕ × List ℕ) → IsPlainField f → line_feeds (print_field f) ≡ 1
one_feed (name, value) h = search (rules, arith, line_feeds-append, no_feeds, no_feed_token)

pub feeds : (fields : Fields) → All IsPlainField fields → line_feeds (flat_map print_field fields) ≡ length fields
feeds [] h = refl
feeds (f ∷ fields) h =
    search (
      rules,
      arith,
      line_feeds-append,
      one_feed,
      All-head,
      IsPlainField,
      All-tail,
      feeds fields (All-tail IsPlainField f fields h),
    )

-- ---- heads

-- the head that is written
abbrev pub head_of : Status → Fields → ResponseHead
head_of status fields = record {
  blank = [];
  minor = 1;
  digits = digits_of status;
  reason = Some (reason_of status);
  line_end = crlf;
  fields = map field_of fields;
  last = crlf;
}

abbrev pub head_text : Status → Fields → List ℕ
head_text status fields = status_line status ++ (flat_map print_field fields ++ crlf_bytes)

pub printed : (status : Status) (fields : Fields) → head_text status fields ≡ print_response (head_of status fields)
unfolding print_response
printed status fields = search (rules, arith, is_line, fields_printed, append_assoc)

-- the fields of a written head: each is as it is written, and there are few
pub record AreWritten (fields : Fields) : Type 0 where
  pub short : All IsShortField fields
  pub few : length fields ≤ 6

pub all_plain : (fields : Fields) → AreWritten fields → All IsPlainField fields
all_plain fields h = All-weaker IsShortField IsPlainField (λ f s. s.plain) fields h.short

pub code_is : (status : Status) (fields : Fields) → status_code (head_of status fields) ≡ status_number status
code_is status fields = sym (is_line status).code

pub fields_are : (status : Status) (fields : Fields) → AreWritten fields
    → head_fields (head_of status fields).fields ≡ fields
fields_are status fields h = values_kept fields (all_plain fields h)

head_short : (status : Status) (fields : Fields) → AreWritten fields
    → length (print_response (head_of status fields)) ≤ max_head
head_short status fields h =
    grind (
      arith,
      is_line status,
      printed status fields,
      few_bytes fields h.short,
      length-append (status_line status) (flat_map print_field fields ++ crlf_bytes),
      length-append (flat_map print_field fields) crlf_bytes,
    )

pub few_lines : (status : Status) (fields : Fields) → AreWritten fields
    → line_feeds (print_response (head_of status fields)) ≤ max_fields + 2
few_lines status fields h =
    grind (
      arith,
      is_line status,
      printed status fields,
      feeds fields (all_plain fields h),
      all_plain fields h,
      line_feeds-append (status_line status) (flat_map print_field fields ++ crlf_bytes),
      line_feeds-append (flat_map print_field fields) crlf_bytes,
    )

pub head_read : (status : Status) (fields : Fields) (behind : List ℕ) → AreWritten fields
    → ReadsHead responses (head_text status fields ++ behind) (head_of status fields) behind
head_read status fields behind h =
    let few = h.few in
    let valid : All IsField (map field_of fields) =
    All-map IsField field_of fields
    (All-weaker IsPlainField (λ f. IsField (field_of f)) field_valid fields (all_plain fields h)) in
    record {
      reads = (
        record {
          minor = omega arith;
          digits = (is_line status).digits;
          reason = (is_line status).reason;
          fields = valid;
        },
        ap (λ t. t ++ behind) (printed status fields),
      );
      short = head_short status fields h;
      few = omega (arith, few, length-map fields field_of);
    }
