-- The digits of digests, and that the test of a digest's text decides its definition.
use Rattle.std.proofs.Common.{◌≡◌, ◌≢◌, ℕ, zero, suc, ◌+◌, ◌-◌, ◌*◌, ◌/◌, ◌%◌, ◌<◌, ◌≤◌, ◌^◌, Bool, true, ◌&&◌, List}
use Rattle.std.proofs.Common.{[], ◌∷◌, ◌++◌, length, drop, Option, Some, None, Result, Ok, Err, refl}
use Rattle.std.proofs.Common.{sym, ap, ◌∙◌, subst, cond, arith, rules}
use Rattle.std.specs.Prelude.{◌==◌, All, slice_index, nat_lt, nat_eq, option_map}
use Rattle.std.specs.List.{list_all, starts_with}
use Rattle.std.specs.Result.{MatchResult, result_ok, result_unwrap_or}
use Rattle.std.specs.Int.{byte_at, bytes_high_first}
use Rattle.std.proofs.lemmas.Bool.{and_parts, or_cases, cases_Bool, cases_lt, eqb-true, leb-true}
use Rattle.std.proofs.lemmas.List.Elements.{All-cons, All-nil, All-head, All-tail, All-append}
use Rattle.std.proofs.lemmas.List.{get_or_past, take-append-drop}
use Rattle.sha2.specs.Sha256.{sha256, digest_bytes}
use Rattle.sha2.specs.Sha512 as long
use Rattle.sha2.proofs.Facts256.{length-sha256}
use Rattle.sha2.proofs.Facts512.{length-sha512}
use Rattle.hex.specs.Hex.{IsBytes, encode_with, encode_lower, lower_digits, hex_digit_value, digit_or_error, value_at}
use Rattle.hex.specs.Hex.{pair_value, decode_pairs}
use Rattle.hex.specs.declared.error.FromHexError.{FromHexError}
use Rattle.hex.proofs.HexLemmas.{length-encode_with, decode_sized-twice, decode_of-encode_lower}
use Rattle.hex.proofs.Pairs.{cons_byte, decode_pairs-ok_pair}
use Rattle.upload_names.specs.declared.digest.Algorithm.{Algorithm}
use Rattle.upload_names.specs.declared.digest.Algorithm.TheVariants.{Sha256, Sha512}
use Rattle.upload_names.specs.Digest.{Digest, IsDigest, content_digest, hash_size, prefix_of, digest_text, SpellsDigest}
use Rattle.upload_names.specs.Digest.{is_lower_digit, digits_read, read_by, digest_of}

-- ---- what the algorithms give

abbrev AreBytes : List ℕ → Type 0
AreBytes bytes = All (λ b. b < 256) bytes

byte_small : (i x : ℕ) → byte_at i x < 256
byte_small zero x = omega arith
byte_small (suc i) x = let q = x / 256 ^ suc i in let h : q % 256 < 256 = omega arith in h

bytes_of : (k x : ℕ) → AreBytes (bytes_high_first k x)
bytes_of zero x = All-nil (λ b. b < 256)
bytes_of (suc k) x = All-cons (λ b. b < 256) (byte_at k x) (bytes_high_first k x) (byte_small k x) (bytes_of k x)

bytes_of_words : (words : List ℕ) (n : ℕ) → AreBytes (digest_bytes words n)
unfolding digest_bytes
bytes_of_words words zero = All-nil (λ b. b < 256)
bytes_of_words words (suc n) = search (rules, arith, All-append, bytes_of, bytes_of_words words n)

bytes_of_long_words : (words : List ℕ) (n : ℕ) → AreBytes (long.digest_bytes words n)
unfolding long.digest_bytes
bytes_of_long_words words zero = All-nil (λ b. b < 256)
bytes_of_long_words words (suc n) = search (rules, arith, All-append, bytes_of, bytes_of_long_words words n)

pub IsDigest-content : (algorithm : Algorithm) (content : List ℕ) → IsDigest (content_digest algorithm content)
unfolding sha256 long.sha512
IsDigest-content Sha256 content = record { sized = length-sha256 content; bytes = bytes_of_words _ 8 }
IsDigest-content Sha512 content = record { sized = length-sha512 content; bytes = bytes_of_long_words _ 8 }

-- ---- digits

-- a test that every number below n passes
all_below : (ℕ → Bool) → ℕ → Bool
all_below test zero = true
all_below test (suc n) = test n && all_below test n

at_below : (test : ℕ → Bool) (n k : ℕ) → all_below test n ≡ true → k < n → test k ≡ true
unfolding all_below
at_below test zero k h lt = absurd (omega arith)
at_below test (suc n) k h lt = search (rules, arith, and_parts, cases_lt, at_below test n k)

abbrev digit_code : ℕ → ℕ
digit_code v = cond (nat_lt v 10) (48 + v) (87 + v)

is_code : (v : ℕ) → v < 16 → slice_index lower_digits v ≡ digit_code v
unfolding all_below
is_code v lt = search (rules, arith, eqb-true, at_below)

is_lower : (v : ℕ) → v < 16 → is_lower_digit (slice_index lower_digits v) ≡ true
unfolding all_below
is_lower v lt = at_below (λ k. is_lower_digit (slice_index lower_digits k)) 16 v refl lt

-- the value of a lower case digit, of which it is the digit
record HasValue (c : ℕ) : Type 0 where
  value : ℕ
  small : value < 16
  reads : hex_digit_value c ≡ Some value
  writes : slice_index lower_digits value ≡ c

decimal_value : (c : ℕ) → 48 ≤ c → c ≤ 57 → HasValue c
decimal_value c low high = record {
  value = c - 48;
  small = omega arith;
  reads = grind (arith);
  writes = is_code (c - 48) (omega arith) ∙ grind (arith);
}

letter_value : (c : ℕ) → 97 ≤ c → c ≤ 102 → HasValue c
letter_value c low high = record {
  value = c - 87;
  small = omega arith;
  reads = grind (arith);
  writes = is_code (c - 87) (omega arith) ∙ grind (arith);
}

has_value : (c : ℕ) → is_lower_digit c ≡ true → HasValue c
has_value c h = search (rules, arith, or_cases, and_parts, decimal_value, leb-true, letter_value)

-- ---- what digits spell

-- one pair of lower case digits
record IsPair (i high low : ℕ) : Type 0 where
  byte : ℕ
  small : byte < 256
  reads : pair_value high low i ≡ Ok byte
  high_is : slice_index lower_digits (byte / 16) ≡ high
  low_is : slice_index lower_digits (byte % 16) ≡ low

pair_of : (i high low : ℕ) → HasValue high → HasValue low → IsPair i high low
pair_of i high low h l =
    let first : value_at high i ≡ Ok h.value = ap (digit_or_error high i) h.reads in
    let second : value_at low (i + 1) ≡ Ok l.value = ap (digit_or_error low (i + 1)) l.reads in
    let hs = h.small in
    let ls = l.small in
    let q : (h.value * 16 + l.value) / 16 ≡ h.value = omega arith in
    grind arith

-- the bytes that pairs of lower case digits spell
record IsSpelled (digits bytes : List ℕ) : Type 0 where
  writes : encode_lower bytes ≡ digits
  small : AreBytes bytes
  half : length digits ≡ 2 * length bytes

cons_byte-inverse : (v : ℕ) (r : Result (List ℕ) FromHexError) (bytes : List ℕ) → cons_byte v r ≡ Ok bytes
    → (tail : List ℕ) × (r ≡ Ok tail) × (v ∷ tail ≡ bytes)
cons_byte-inverse v (Ok tail) bytes e = (tail, refl, ap (λ r. result_unwrap_or r []) e)
cons_byte-inverse v (Err error) bytes e = cc e

spelled : (i : ℕ) (digits bytes : List ℕ) → list_all is_lower_digit digits ≡ true → decode_pairs i digits ≡ Ok bytes
    → IsSpelled digits bytes
unfolding decode_pairs encode_with
spelled i [] bytes h e = search (rules, arith, All-nil)
spelled i (one ∷ []) bytes h e = cc e
spelled i (high ∷ low ∷ rest) bytes h e =
    let first = and_parts (is_lower_digit high) (is_lower_digit low && list_all is_lower_digit rest) h in
    let second = and_parts (is_lower_digit low) (list_all is_lower_digit rest) first.1 in
    let pair = pair_of i high low (has_value high first.0) (has_value low second.0) in
    let (tail, reads, is) =
    cons_byte-inverse pair.byte (decode_pairs (i + 2) rest) bytes
    (sym (decode_pairs-ok_pair i high low pair.byte rest pair.reads) ∙ e) in
    let ih = spelled (i + 2) rest tail second.1 reads in
    let half = ih.half in
    subst (IsSpelled (high ∷ low ∷ rest)) is (search (rules, arith, All-cons))

-- what room for some bytes takes of lower case digits
spelled_in_room : (size : ℕ) (digits bytes : List ℕ) → digits_read size digits ≡ Some bytes
    → IsSpelled digits bytes × (length bytes ≡ size)
spelled_in_room size digits bytes h =
    grind (
      arith,
      cases_Bool (list_all is_lower_digit digits),
      cases_Bool (length digits % 2 == 1),
      cases_Bool (length digits / 2 == size),
      spelled 0 digits bytes,
      eqb-true (length digits / 2) size,
    )

-- ---- written digits are read

lower_written : (bytes : List ℕ) → AreBytes bytes → list_all is_lower_digit (encode_lower bytes) ≡ true
unfolding encode_with
lower_written [] h = refl
lower_written (b ∷ bytes) h =
    let small : b < 256 = All-head (λ x. x < 256) b bytes h in
    let high = is_lower (b / 16) (omega arith) in
    let low = is_lower (b % 16) (omega arith) in
    rw (high, low) (lower_written bytes (All-tail (λ x. x < 256) b bytes h))

is_bytes : (bytes : List ℕ) → AreBytes bytes → IsBytes bytes
is_bytes bytes h i = search (rules, arith, cases_lt, get_or_past)

pub digits_read-written : (size : ℕ) (bytes : List ℕ) → length bytes ≡ size → AreBytes bytes
    → digits_read size (encode_lower bytes) ≡ Some bytes
digits_read-written size bytes len small =
    search (rules, arith, length-encode_with, decode_sized-twice, decode_of-encode_lower, is_bytes, lower_written)

-- ---- texts of digests

cut_prefix : (prefix text : List ℕ) → starts_with nat_eq text prefix ≡ true → text ≡ prefix ++ drop (length prefix) text
cut_prefix prefix text h = search (rules, arith, take-append-drop)

mapped : (algorithm : Algorithm) (digits : List ℕ) (digest : Digest) (o : Option (List ℕ))
    → digits_read (hash_size algorithm) digits ≡ o
    → option_map (λ bytes. record { algorithm = algorithm; bytes = bytes }) o ≡ Some digest
    → IsDigest digest × (prefix_of algorithm ++ digits ≡ digest_text digest)
unfolding digest_text
mapped algorithm digits digest None e h = cc h
mapped algorithm digits digest (Some bytes) e h = grind (arith, spelled_in_room (hash_size algorithm) digits bytes e)

read_by-spells : (algorithm : Algorithm) (digits : List ℕ) (digest : Digest) → read_by algorithm digits ≡ Some digest
    → IsDigest digest × (prefix_of algorithm ++ digits ≡ digest_text digest)
read_by-spells algorithm digits digest h =
    mapped algorithm digits digest (digits_read (hash_size algorithm) digits) refl h

pub digest_of-spells : (text : List ℕ) (digest : Digest) → digest_of text ≡ Some digest → SpellsDigest text digest
unfolding digest_of
digest_of-spells text digest h =
    grind (
      arith,
      cases_Bool (starts_with nat_eq text (prefix_of Sha256)),
      read_by-spells Sha256 (drop 7 text) digest,
      cut_prefix (prefix_of Sha256) text,
      cases_Bool (starts_with nat_eq text (prefix_of Sha512)),
      read_by-spells Sha512 (drop 7 text) digest,
      cut_prefix (prefix_of Sha512) text,
    )

reads_back : (algorithm : Algorithm) (bytes : List ℕ) → length bytes ≡ hash_size algorithm → AreBytes bytes
    → digest_of (prefix_of algorithm ++ encode_lower bytes) ≡ Some (record { algorithm = algorithm; bytes = bytes })
unfolding digest_of
reads_back Sha256 bytes sized small = cc (digits_read-written 32 bytes sized small)
reads_back Sha512 bytes sized small = cc (digits_read-written 64 bytes sized small)

pub digest_of-text : (digest : Digest) → IsDigest digest → digest_of (digest_text digest) ≡ Some digest
unfolding digest_text
digest_of-text digest d = reads_back digest.algorithm digest.bytes d.sized d.bytes

pub digest_of-spelled : (text : List ℕ) (digest : Digest) → SpellsDigest text digest → digest_of text ≡ Some digest
digest_of-spelled text digest s = ap digest_of s.1 ∙ digest_of-text digest s.0

-- ---- what the reader of digests finds

pub reads_256 : (text digits : List ℕ) → text ≡ prefix_of Sha256 ++ digits → digest_of text ≡ read_by Sha256 digits
unfolding digest_of
reads_256 text digits e = ap digest_of e

pub reads_512 : (text digits : List ℕ) → text ≡ prefix_of Sha512 ++ digits → digest_of text ≡ read_by Sha512 digits
unfolding digest_of
reads_512 text digits e = ap digest_of e

pub reads_none : (text : List ℕ) → ((digits : List ℕ) → text ≢ prefix_of Sha256 ++ digits)
    → ((digits : List ℕ) → text ≢ prefix_of Sha512 ++ digits) → digest_of text ≡ None
unfolding digest_of
reads_none text no_256 no_512 = search (rules, arith, cases_Bool, cut_prefix)

-- the digits read give a digest
pub IsDigest-read : (algorithm : Algorithm) (digits bytes : List ℕ)
    → digits_read (hash_size algorithm) digits ≡ Some bytes → IsDigest (record { algorithm = algorithm; bytes = bytes })
IsDigest-read algorithm digits bytes h = search (rules, arith, spelled_in_room)

-- what `hex` wrote into room for so many bytes
abbrev done : Result (Unit {0}) FromHexError
done = Ok tt

pub decoded : (r : Result (List ℕ) FromHexError) (out : List ℕ)
    → MatchResult r (λ bytes. (done ≡ Ok tt) × (out ≡ bytes)) (λ e. done ≡ Err e) → Some out ≡ result_ok r
decoded (Ok bytes) out h = ap Some h.1
decoded (Err e) out h = cc h

-- ---- how long texts are
