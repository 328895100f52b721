-- The fields of a written reply are read as what they say.
use Rattle.std.proofs.Common.{◌≡◌, ℕ, ◌+◌, ◌-◌, ◌<◌, ◌≤◌, ◌^◌, Bool, true, false, codes, List, [], ◌∷◌, ◌++◌, All}
use Rattle.std.proofs.Common.{length, get_or, refl, arith, ◌∙◌, sym, ap, subst, Option, Some, None, Ok}
use Rattle.std.proofs.Common.{append-nil, length-append, nat_le, if◌then◌else◌, lit≤, lit<, rules}
use Rattle.std.proofs.lemmas.Bool.{and_parts}
use Rattle.std.proofs.lemmas.Bool.Decides.{nat_tests}
use Rattle.std.proofs.lemmas.Fmt.{length-decimal-le}
use Rattle.std.proofs.lemmas.List.{map-append}
use Rattle.std.proofs.lemmas.List.Elements.{All-append, All-cons, All-nil, filter-append}
use Rattle.std.proofs.lemmas.List.Sums.{AllPass-from_list_all}
use Rattle.std.specs.List.{list_all}
use Rattle.std.specs.Prelude.{decimal}
use Rattle.std.specs.Char.{is_ascii_graphic}
use Rattle.httparse.specs.Grammar.{AllPass, is_token_byte, is_value_byte, trim_ows}
use Rattle.upload_names.specs.NamePass.{is_name}
use Rattle.upload_names.specs.Digest.{Digest, IsDigest, digest_text}
use Rattle.upload_names.specs.ByteRange.{range_cap}
use Rattle.upload_names.proofs.DigestFacts.{digest_of-text}
use Rattle.upload_names.proofs.RangeFacts.{range_of-spelled}
use Rattle.upload_names.proofs.ReferenceTexts.{length-reference_text}
use Rattle.upload_service.specs.declared.answer.Form.{Form}
use Rattle.upload_service.specs.declared.answer.Form.TheVariants as forms
use Rattle.upload_service.specs.declared.answer.Refusal.{Refusal}
use Rattle.upload_service.specs.declared.answer.Refusal.TheVariants as refusals
use Rattle.form_urlencoded.specs.Form.{split}
use Rattle.http_wire.specs.Fields.{Fields, values_of, first_of, keeps_connection, lists_close}
use Rattle.http_wire.specs.HeadText.{HeadField, closing_fields, length_field}
use Rattle.upload_wire.specs.ReplyText.{allow_fields, body_fields, blob_location, error_fields, methods, upload_fields}
use Rattle.upload_wire.specs.ReplyText.{upload_location}
use Rattle.upload_texts.specs.Errors.{error_body, refusal_code}
use Rattle.upload_texts.specs.declared.error.ErrorCode.{ErrorCode}
use Rattle.upload_texts.specs.declared.error.ErrorCode.TheVariants as errors
use Rattle.upload_client.specs.AnswerText.{IsPlaceOf, location, range, upto_of}
use Rattle.upload_client.specs.Heard.{last_below}
use Rattle.upload_texts.proofs.PlainTexts.{IsPlain, AllPass-append, AllPass-weaker, is_plain_byte, digest_plain}
use Rattle.upload_texts.proofs.PlainTexts.{upload_plain}
use Rattle.wire_laws.specs.WrittenReplies.{most_told}
use Rattle.wire_laws.proofs.DigestTexts.{short_text}
use Rattle.wire_laws.proofs.ReplyHeads.{AreWritten, IsShortField}
use Rattle.wire_laws.proofs.WrittenFields.{capped_decimal, decimal_graphic, is_numeral, length_plain, plain_field}
use Rattle.wire_laws.proofs.WrittenFields.{type_plain}
use Rattle.wire_laws.proofs.WrittenTargets.{spelled}

-- ---- one field

plain_graphic : (b : ℕ) → is_plain_byte b ≡ true → is_ascii_graphic b ≡ true
plain_graphic b h = grind (arith, nat_tests)

graphic_text : (text : List ℕ) → IsPlain text → AllPass is_ascii_graphic text
graphic_text text h = AllPass-weaker is_plain_byte is_ascii_graphic text plain_graphic h

location_short : (path : List ℕ) → IsPlain path → length path ≤ 450 → IsShortField (codes "Location", path)
unfolding is_token_byte
location_short path h short = search (rules, arith, plain_field, graphic_text)

pub digest_length : (digest : Digest) → IsDigest digest → length (digest_text digest) ≤ 135
digest_length digest h = short_text (digest_text digest) digest (digest_of-text digest h)

digest_short : (digest : Digest) → IsDigest digest → IsShortField (codes "Docker-Content-Digest", digest_text digest)
unfolding is_token_byte
digest_short digest h = search (rules, arith, plain_field, graphic_text, digest_plain, digest_length)

octets_short : IsShortField (codes "Content-Type", codes "application/octet-stream")
octets_short = record { plain = type_plain; short = lit≤ tt }

json_short : IsShortField (codes "Content-Type", codes "application/json")
unfolding is_token_byte
json_short = search (rules, arith, plain_field, AllPass-from_list_all)

length_short : (n : ℕ) → n < 2 ^ 64 → IsShortField (length_field n)
length_short n small = record {
  plain = length_plain n small;
  short = omega (arith, length-decimal-le 20 n (omega arith) (omega arith) small);
}

-- a value that may have spaces inside
allowed : (value : List ℕ) → list_all is_value_byte value ≡ true → trim_ows (32 ∷ value) ≡ value
    → length (codes "Allow") + length value ≤ 500
    → IsShortField (codes "Allow", value)
unfolding is_token_byte
allowed value v kept short = search (rules, arith, AllPass-from_list_all)

allow_short : (form : Form) → IsShortField (codes "Allow", methods form)
unfolding is_token_byte trim_ows
allow_short forms.Base = allowed (methods forms.Base) refl refl (lit≤ tt)
allow_short other = allowed (methods other) refl refl (lit≤ tt)

-- ---- paths

pub name_length : (name : List ℕ) → is_name name ≡ true → length name ≤ 255
unfolding is_name
name_length name h = search (rules, arith, and_parts, nat_le)

pub upload_length : (name at : List ℕ) → is_name name ≡ true → length (upload_location name at) ≤ 450
upload_length name at n = search (rules, arith, name_length, length-reference_text, length-append)

pub blob_length : (name : List ℕ) (digest : Digest) → is_name name ≡ true → IsDigest digest
    → length (blob_location name digest) ≤ 450
blob_length name digest n d = search (rules, arith, name_length, digest_length, length-append)

-- a path is read as the place
place_read : (path : List ℕ) → IsPlain path → length path ≤ 450 → get_or path 0 0 ≡ 47
    → IsPlaceOf (Some path) (Ok (Some path))
place_read path h short slash =
    let s = spelled path None h slash tt (rw append-nil (omega (arith, short))) in
    (s.uri, rw append-nil at s.spells, ap Some (sym s.path_is))

-- ---- ranges

-- 0-<last> is read as its last position
range_read : (last : ℕ) → last ≤ range_cap → upto_of (Some (codes "0-" ++ decimal last)) ≡ Ok (Some last)
range_read last h =
    rw (range_of-spelled (codes "0-" ++ decimal last) (record { first = 0; last = last }) (record {
      first = codes "0";
      last = decimal last;
      is_first = record { filled = lit< tt; digits = refl };
      is_last = is_numeral last (omega (arith, h));
      cut = refl;
      spelled_first = refl;
      spelled_last = capped_decimal last h;
    })) refl

range_short : (last : ℕ) → last ≤ range_cap → IsShortField (codes "Range", codes "0-" ++ decimal last)
unfolding is_token_byte
range_short last h =
    let small : last < 2 ^ 64 = omega (arith, h) in
    let start = AllPass-from_list_all is_ascii_graphic (codes "0-") refl in
    let digits = AllPass-append is_ascii_graphic (codes "0-") (decimal last) start (decimal_graphic last small) in
    record {
      plain = plain_field (codes "Range") (codes "0-" ++ decimal last) refl refl digits;
      short = omega (arith, length-decimal-le 20 last (omega arith) (omega arith) small);
    }

-- ---- the fields of a reply

-- What the fields say: the values of Content-Length, a place and a last position. No other field counts.
pub record Says (fields : Fields) (lengths : List (List ℕ)) (place : Option (List ℕ)) (upto : Option ℕ) : Type 0 where
  pub short : All IsShortField fields
  pub few : length fields ≤ 5
  pub coding : values_of (codes "transfer-encoding") fields ≡ []
  pub lengths_are : values_of (codes "content-length") fields ≡ lengths
  pub place_is : IsPlaceOf (location fields) (Ok place)
  pub upto_is : upto_of (range fields) ≡ Ok upto
  pub connection : values_of (codes "connection") fields ≡ []

-- the values of the fields that count
record Counted : Type 0 where
  coding : List (List ℕ)
  lengths : List (List ℕ)
  place : Option (List ℕ)
  upto : Option (List ℕ)
  connection : List (List ℕ)

abbrev counted : Fields → Counted
counted fields = record {
  coding = values_of (codes "transfer-encoding") fields;
  lengths = values_of (codes "content-length") fields;
  place = location fields;
  upto = range fields;
  connection = values_of (codes "connection") fields;
}

abbrev only : List (List ℕ) → Option (List ℕ) → Counted
only lengths place = record { coding = []; lengths = lengths; place = place; upto = None; connection = [] }

-- fields that say lengths and perhaps a place
says : {fields : Fields} {lengths : List (List ℕ)} {place : Option (List ℕ)} → All IsShortField fields
    → length fields ≤ 5 → counted fields ≡ only lengths place → IsPlaceOf place (Ok place)
    → Says fields lengths place None
says {fields} {lengths} {place} short few is there = search (rules, arith)

no_fields : All IsShortField []
no_fields = All-nil IsShortField

with_field : (f : HeadField) (fields : Fields) → IsShortField f → All IsShortField fields
    → All IsShortField (f ∷ fields)
with_field f fields h t = All-cons IsShortField f fields h t

one_length : (n : ℕ) → n < 2 ^ 64 → All IsShortField (length_field n ∷ [])
one_length n small = with_field (length_field n) [] (length_short n small) no_fields

-- a length alone
pub length_says : (n : ℕ) → n < 2 ^ 64 → Says (length_field n ∷ []) (decimal n ∷ []) None None
unfolding values_of
length_says n small = says (one_length n small) (omega arith) refl refl

-- a place and a length of 0
pub place_says : (path : List ℕ) → IsPlain path → length path ≤ 450 → get_or path 0 0 ≡ 47
    → Says ((codes "Location", path) ∷ length_field 0 ∷ []) (decimal 0 ∷ []) (Some path) None
unfolding values_of
place_says path h short slash = search (rules, arith, says, with_field, location_short, one_length, place_read)

abbrev place_field : List ℕ → List ℕ → HeadField
place_field name at = (codes "Location", upload_location name at)

abbrev range_field : ℕ → HeadField
range_field next = (codes "Range", codes "0-" ++ decimal (next - 1))

-- a place, a range unless there are no bytes, and fields that say a length alone
upload_by : (none : Bool) (name at : List ℕ) (next : ℕ) (more : Fields) (lengths : List (List ℕ))
    → is_name name ≡ true → next ≤ most_told
    → length more ≤ 2 → Says more lengths None None → location more ≡ None → range more ≡ None
    → Says ((place_field name at ∷ (if none then [] else range_field next ∷ [])) ++ more) lengths
    (Some (upload_location name at))
    (if none then None else Some (next - 1))
unfolding values_of
upload_by none name at next more lengths n le few m no_place no_range = go none
  where
    path : IsPlain (upload_location name at)
    path = upload_plain name at n

    place_short : IsShortField (place_field name at)
    place_short = location_short (upload_location name at) path (upload_length name at n)

    there : IsPlaceOf (Some (upload_location name at)) (Ok (Some (upload_location name at)))
    there = place_read (upload_location name at) path (upload_length name at n) refl

    told : next - 1 ≤ range_cap
    told = omega (arith, le)

    go : (none : Bool)
        → Says ((place_field name at ∷ (if none then [] else range_field next ∷ [])) ++ more) lengths
        (Some (upload_location name at))
        (if none then None else Some (next - 1))
    go true = record {
      short = with_field (place_field name at) more place_short m.short;
      few = omega (arith, few);
      coding = m.coding;
      lengths_are = m.lengths_are;
      place_is = there;
      upto_is = m.upto_is;
      connection = m.connection;
    }
    go false = record {
      short = with_field (place_field name at) (range_field next ∷ more) place_short
          (with_field (range_field next) more (range_short (next - 1) told) m.short);
      few = omega (arith, few);
      coding = m.coding;
      lengths_are = m.lengths_are;
      place_is = there;
      upto_is = range_read (next - 1) told;
      connection = m.connection;
    }

upload_says : (name at : List ℕ) (next : ℕ) (more : Fields) (lengths : List (List ℕ)) → is_name name ≡ true
    → next ≤ most_told → length more ≤ 2
    → Says more lengths None None → location more ≡ None → range more ≡ None
    → Says (upload_fields name at next ++ more) lengths (Some (upload_location name at)) (last_below next)
upload_says name at next more lengths n le few m no_place no_range = search (rules, arith, upload_by)

pub taken_says : (name at : List ℕ) (next : ℕ) → is_name name ≡ true → next ≤ most_told
    → Says (upload_fields name at next ++ length_field 0 ∷ []) (decimal 0 ∷ []) (Some (upload_location name at))
    (last_below next)
unfolding values_of
taken_says name at next n le = search (rules, arith, upload_says, length_says)

-- no fields
pub nothing_says : Says [] [] None None
unfolding values_of
nothing_says = says no_fields (omega arith) refl refl

pub standing_says : (name at : List ℕ) (next : ℕ) → is_name name ≡ true → next ≤ most_told
    → Says (upload_fields name at next) [] (Some (upload_location name at)) (last_below next)
unfolding values_of
standing_says name at next n le =
    subst (λ f. Says f [] (Some (upload_location name at)) (last_below next)) (append-nil (upload_fields name at next))
    (upload_says name at next [] [] n le (omega arith) nothing_says refl refl)

-- the digest of a blob, and the kind and the length of its bytes
pub found_says : (digest : Digest) (size : ℕ) → IsDigest digest → size < 2 ^ 64
    → Says ((codes "Docker-Content-Digest", digest_text digest) ∷ body_fields (codes "application/octet-stream") size)
    (decimal size ∷ []) None None
unfolding values_of
found_says digest size d small = search (rules, arith, says, with_field, digest_short, octets_short, one_length)

-- the bodies of errors are short
pub error_size : (code : ErrorCode) → length (error_body code) ≤ 200
error_size errors.BlobUnknown = lit≤ tt
error_size other = lit≤ tt

abbrev error_lengths : ErrorCode → List (List ℕ)
error_lengths code = decimal (length (error_body code)) ∷ []

error_short : (code : ErrorCode) → All IsShortField (error_fields code)
error_short code =
    with_field (codes "Content-Type", codes "application/json")
    (length_field (length (error_body code)) ∷ []) json_short
    (one_length (length (error_body code)) (omega (arith, error_size code)))

error_says : (code : ErrorCode) → Says (error_fields code) (error_lengths code) None None
unfolding values_of
error_says code = says (error_short code) (omega arith) refl refl

pub misplaced_says : (name at : List ℕ) (next : ℕ) (code : ErrorCode) → is_name name ≡ true → next ≤ most_told
    → Says (upload_fields name at next ++ error_fields code) (error_lengths code) (Some (upload_location name at))
    (last_below next)
unfolding values_of
misplaced_says name at next code n le = search (rules, arith, upload_says, error_says)

method_says : (form : Form) (code : ErrorCode)
    → Says ((codes "Allow", methods form) ∷ error_fields code) (error_lengths code) None None
unfolding values_of
method_says form code = search (rules, arith, says, with_field, allow_short, error_short)

pub refused_says : (refusal : Refusal)
    → Says (allow_fields refusal ++ error_fields (refusal_code refusal))
    (error_lengths (refusal_code refusal)) None None
refused_says (refusals.Method form) = method_says form errors.Unsupported
refused_says other = error_says (refusal_code other)

-- ---- with the field that closes the connection

pub record SaysAll (fields : Fields) (lengths : List (List ℕ)) (place : Option (List ℕ)) (upto : Option ℕ)
    (keep : Bool) : Type 0 where
  pub written : AreWritten fields
  pub coding : values_of (codes "transfer-encoding") fields ≡ []
  pub lengths_are : values_of (codes "content-length") fields ≡ lengths
  pub place_is : IsPlaceOf (location fields) (Ok place)
  pub upto_is : upto_of (range fields) ≡ Ok upto
  pub keeps : keeps_connection 1 fields ≡ keep

values_before : (name : List ℕ) (fields more : Fields) → values_of name more ≡ []
    → values_of name (fields ++ more) ≡ values_of name fields
unfolding values_of
values_before name fields more none = search (rules, arith, filter-append, map-append, append-nil)

values_behind : (name : List ℕ) (fields more : Fields) → values_of name fields ≡ []
    → values_of name (fields ++ more) ≡ values_of name more
unfolding values_of
values_behind name fields more none = search (rules, arith, filter-append, map-append)

close_short : IsShortField (codes "Connection", codes "close")
unfolding is_token_byte
close_short = search (rules, arith, plain_field, AllPass-from_list_all)

closes : lists_close (codes "close") ≡ true
unfolding lists_close trim_ows split
closes = refl

pub closed : (fields : Fields) (lengths : List (List ℕ)) (place : Option (List ℕ)) (upto : Option ℕ) (keep : Bool)
    → Says fields lengths place upto
    → SaysAll (fields ++ closing_fields keep) lengths place upto keep
unfolding values_of
closed fields lengths place upto true s = search (rules, arith, append-nil)
closed fields lengths place upto false s =
    let last : Fields = (codes "Connection", codes "close") ∷ [] in
    let close = values_behind (codes "connection") fields last s.connection in
    record {
      written = record {
        short =
            All-append IsShortField fields last s.short
            (with_field (codes "Connection", codes "close") [] close_short no_fields);
        few = let few = s.few in omega (arith, few, length-append fields last);
      };
      coding = values_before (codes "transfer-encoding") fields last refl ∙ s.coding;
      lengths_are = values_before (codes "content-length") fields last refl ∙ s.lengths_are;
      place_is =
          subst (λ v. IsPlaceOf (first_of v) (Ok place))
          (sym (values_before (codes "location") fields last refl)) s.place_is;
      upto_is = ap (λ v. upto_of (first_of v)) (values_before (codes "range") fields last refl) ∙ s.upto_is;
      keeps = rw (close, closes) refl;
    }
