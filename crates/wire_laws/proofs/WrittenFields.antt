-- The fields of a written request are read as what they say.
use Rattle.std.proofs.Common.{◌≡◌, ℕ, ◌+◌, ◌<◌, ◌≤◌, ◌^◌, ◌%◌, true, codes, List, [], ◌∷◌, ◌++◌, All, length}
use Rattle.std.proofs.Common.{refl, arith, ap, Some, Ok, lt-ltb, le-ltb, nat_lt, rules}
use Rattle.std.proofs.lemmas.Bool.{and_parts}
use Rattle.std.proofs.lemmas.Bool.Decides.{nat_tests}
use Rattle.std.proofs.lemmas.List.Elements.{All-cons, All-nil}
use Rattle.std.proofs.lemmas.List.Sums.{AllPass-from_list_all, list_all-from_AllPass}
use Rattle.std.proofs.lemmas.Fmt.{decimal_by_steps, decimal_is_IsNumeral, decimal_nonempty}
use Rattle.std.specs.List.{list_all}
use Rattle.std.specs.Prelude.{decimal}
use Rattle.std.specs.Char.{is_ascii_graphic, is_ascii_digit}
use Rattle.httparse.specs.Grammar.{AllPass, is_token_byte}
use Rattle.upload_names.specs.ByteRange.{Span, IsSpan, IsNumeral, capped_value, range_cap, range_of}
use Rattle.upload_names.proofs.RangeFacts.{range_of-spelled}
use Rattle.upload_service.specs.declared.ask.Extent.{Extent}
use Rattle.upload_service.specs.declared.ask.Extent.TheVariants.{Absent, Bad, Given}
use Rattle.http_wire.specs.Fields.{Fields, values_of, keeps_connection}
use Rattle.http_wire.specs.Body.{framing_of, is_number, length_of}
use Rattle.http_wire.specs.declared.body.Framing.TheVariants.{Length}
use Rattle.upload_wire.specs.Target.{extent_of, given_range}
use Rattle.upload_client.specs.AskText.{is_host, range_text, content_range_fields, ask_body_fields, IsAbsentOrGiven}
use Rattle.http_wire.specs.HeadText.{length_field}
use Rattle.wire_laws.specs.WrittenAsks.{HasSpan}
use Rattle.upload_texts.proofs.PlainTexts.{AllPass-append, AllPass-cons, AllPass-nil, AllPass-weaker}
use Rattle.wire_laws.proofs.WrittenHeads.{IsPlainField, graphic_field}

-- ---- numbers

digit_is : (n : ℕ) → n < 10 → is_ascii_digit (48 + n) ≡ true
digit_is n h = grind (arith, nat_tests)

one_digit : (n : ℕ) → n < 10 → AllPass is_ascii_digit ((48 + n) ∷ [])
one_digit n h = AllPass-cons is_ascii_digit (48 + n) [] (digit_is n h) (AllPass-nil is_ascii_digit)

pub decimal_digits : (n : ℕ) → n < 2 ^ 64 → AllPass is_ascii_digit (decimal n)
decimal_digits n h =
    decimal_by_steps (λ k digits. AllPass is_ascii_digit digits) one_digit
    (λ k digits big so_far.
    AllPass-append is_ascii_digit digits ((48 + k % 10) ∷ []) so_far (one_digit (k % 10) (omega arith)))
    n h

pub all_digits : (n : ℕ) → n < 2 ^ 64 → list_all is_ascii_digit (decimal n) ≡ true
all_digits n h = list_all-from_AllPass is_ascii_digit (decimal n) (decimal_digits n h)

digit_graphic : (b : ℕ) → is_ascii_digit b ≡ true → is_ascii_graphic b ≡ true
digit_graphic b h = grind (arith, nat_tests)

pub decimal_graphic : (n : ℕ) → n < 2 ^ 64 → AllPass is_ascii_graphic (decimal n)
decimal_graphic n h = AllPass-weaker is_ascii_digit is_ascii_graphic (decimal n) digit_graphic (decimal_digits n h)

length_read : (max_body n : ℕ) → n ≤ max_body → n < 2 ^ 64 → length_of max_body (decimal n) ≡ Ok n
unfolding is_number
length_read max_body n fits h =
    search (rules, arith, decimal_is_IsNumeral, all_digits, nat_lt, lt-ltb, decimal_nonempty, le-ltb)

-- ---- ranges

pub capped_decimal : (n : ℕ) → n ≤ range_cap → n ≡ capped_value (decimal n)
capped_decimal n h = omega (arith, decimal_is_IsNumeral n (omega arith))

pub is_numeral : (n : ℕ) → n < 2 ^ 64 → IsNumeral (decimal n)
is_numeral n h = record { filled = decimal_nonempty n h; digits = all_digits n h }

range_read : (range : Span) → IsSpan range → range_of (range_text range) ≡ Some range
range_read range h =
    grind (
      arith,
      range_of-spelled (range_text range) range (record { first = decimal range.first; last = decimal range.last; is_first = is_numeral range.first (omega (arith, h.0)); is_last = is_numeral range.last (omega (arith, h.1)); cut = refl; spelled_first = capped_decimal range.first h.0; spelled_last = capped_decimal range.last h.1 }),
      is_numeral range.first (omega (arith, h.0)),
      is_numeral range.last (omega (arith, h.1)),
      capped_decimal range.first h.0,
      capped_decimal range.last h.1,
    )

range_graphic : (range : Span) → IsSpan range → AllPass is_ascii_graphic (range_text range)
range_graphic range h =
    let last = codes "-" ++ decimal range.last in
    AllPass-append is_ascii_graphic (decimal range.first) last (decimal_graphic range.first (omega (arith, h.0)))
    (AllPass-append is_ascii_graphic (codes "-") (decimal range.last)
    (AllPass-from_list_all is_ascii_graphic (codes "-") refl) (decimal_graphic range.last (omega (arith, h.1))))

-- ---- fields

-- what a request's fields, with the Host in front, are read as
pub record AreRead (max_body : ℕ) (fields : Fields) (size : ℕ) (range : Extent) : Type 0 where
  pub plain : All IsPlainField fields
  pub few : length fields ≤ 64
  pub framed : framing_of max_body 1 fields ≡ Ok (Length size)
  pub keeps : keeps_connection 1 fields ≡ true
  pub range_is : extent_of (values_of (codes "content-range") fields) ≡ range

pub plain_field : (name value : List ℕ) → nat_lt 0 (length name) ≡ true → list_all is_token_byte name ≡ true
    → AllPass is_ascii_graphic value → IsPlainField (name, value)
plain_field name value some h v = search (rules, arith, graphic_field, AllPass-from_list_all)

with_field : (f : List ℕ × List ℕ) (fields : Fields) → IsPlainField f → All IsPlainField fields
    → All IsPlainField (f ∷ fields)
with_field f fields h t = All-cons IsPlainField f fields h t

host_plain : (host : List ℕ) → is_host host ≡ true → IsPlainField (codes "Host", host)
unfolding is_token_byte
host_plain host h =
    plain_field (codes "Host") host refl refl (AllPass-from_list_all is_ascii_graphic host
    (and_parts (nat_lt 0 (length host)) (list_all is_ascii_graphic host) h).1)

abbrev zero_field : List ℕ × List ℕ
zero_field = (codes "Content-Length", codes "0")

zero_plain : IsPlainField zero_field
unfolding is_token_byte
zero_plain = search (rules, arith, plain_field, AllPass-from_list_all)

pub type_plain : IsPlainField (codes "Content-Type", codes "application/octet-stream")
unfolding is_token_byte
type_plain = search (rules, arith, plain_field, AllPass-from_list_all)

pub length_plain : (n : ℕ) → n < 2 ^ 64 → IsPlainField (length_field n)
unfolding is_token_byte
length_plain n small = plain_field (codes "Content-Length") (decimal n) refl refl (decimal_graphic n small)

range_plain : (range : Span) → IsSpan range → IsPlainField (codes "Content-Range", range_text range)
unfolding is_token_byte
range_plain range h = plain_field (codes "Content-Range") (range_text range) refl refl (range_graphic range h)

body_plain : (body : List ℕ) → length body < 2 ^ 64 → All IsPlainField (ask_body_fields body)
body_plain body small = search (rules, arith, with_field, type_plain, length_plain, All-nil, IsPlainField)

-- no field but the Host
pub bare_read : (max_body : ℕ) (host : List ℕ) → is_host host ≡ true
    → AreRead max_body ((codes "Host", host) ∷ []) 0 Absent
unfolding values_of
bare_read max_body host h = search (rules, arith, with_field, host_plain, All-nil, IsPlainField)

-- a length of 0
pub post_read : (max_body : ℕ) (host : List ℕ) → is_host host ≡ true
    → AreRead max_body ((codes "Host", host) ∷ zero_field ∷ []) 0 Absent
unfolding values_of is_number
post_read max_body host h = search (rules, arith, with_field, host_plain, zero_plain, All-nil, IsPlainField, le-ltb)

-- the type and the length of a body
pub body_read : (max_body : ℕ) (host body : List ℕ) → is_host host ≡ true → length body ≤ max_body → max_body < 2 ^ 64
    → AreRead max_body ((codes "Host", host) ∷ ask_body_fields body) (length body) Absent
unfolding values_of
body_read max_body host body h fits limit =
    let small : length body < 2 ^ 64 = omega arith in
    record {
      plain = with_field (codes "Host", host) (ask_body_fields body) (host_plain host h) (body_plain body small);
      few = omega arith;
      framed = rw (length_read max_body (length body) fits small) refl;
      keeps = refl;
      range_is = refl;
    }

-- a range if it is given, and the fields of a body
pub upload_read : (max_body : ℕ) (host : List ℕ) (range : Extent) (body : List ℕ) → is_host host ≡ true
    → IsAbsentOrGiven range → HasSpan range → length body ≤ max_body → max_body < 2 ^ 64
    → AreRead max_body ((codes "Host", host) ∷ (content_range_fields range ++ ask_body_fields body)) (length body) range
unfolding values_of
upload_read max_body host Absent body h r s fits limit = body_read max_body host body h fits limit
upload_read max_body host Bad body h r s fits limit = absurd r
upload_read max_body host (Given range) body h r s fits limit =
    let small : length body < 2 ^ 64 = omega arith in
    let given : List ℕ × List ℕ = (codes "Content-Range", range_text range) in
    record {
      plain = with_field (codes "Host", host) (given ∷ ask_body_fields body) (host_plain host h)
          (with_field given (ask_body_fields body) (range_plain range s) (body_plain body small));
      few = omega arith;
      framed = rw (length_read max_body (length body) fits small) refl;
      keeps = refl;
      range_is = ap given_range (range_read range s);
    }
