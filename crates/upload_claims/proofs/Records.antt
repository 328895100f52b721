-- Records are read back, alone and one after another.
use Rattle.std.proofs.Common.{◌≡◌, ℕ, zero, suc, ◌+◌, ◌≤◌, ◌<◌, ◌^◌, min, Bool, true, false, cond, List, [], ◌∷◌, ◌++◌, length}
use Rattle.std.proofs.Common.{take, drop, Option, Some, None, Result, Ok, Err, refl, sym, ap, ◌∙◌, append-nil, append_assoc}
use Rattle.std.proofs.Common.{arith, rules}
use Rattle.std.specs.Prelude.{nat_eq, nat_lt}
use Rattle.std.specs.List.{flat_map}
use Rattle.std.specs.Int.{w32, to_be_bytes, from_be_bytes}
use Rattle.std.specs.Cmp.Lexicographic.{pointwise}
use Rattle.std.proofs.lemmas.Bool.{le-ltb, ltb-false}
use Rattle.std.proofs.lemmas.List.{take_at, drop_at, length-append, length-drop}
use Rattle.std.proofs.lemmas.List.Concat.{flat_map-cons}
use Rattle.std.proofs.lemmas.Nat.{from_be_bytes-to_be_bytes_4}
use Rattle.upload_claims.specs.declared.fault.RecordFault.{RecordFault}
use Rattle.upload_claims.specs.declared.fault.RecordFault.TheVariants.{TooLong}
use Rattle.upload_claims.specs.declared.address.Address.{Address}
use Rattle.upload_claims.specs.declared.change.Change.{Change}
use Rattle.upload_claims.specs.Fields.{◌>>=◌, both, number_at, bytes_at}
use Rattle.upload_claims.specs.Texts.{changes_text, changes_of}
use Rattle.upload_claims.specs.Records.{sum, head_text, record_text, longest_body, IsRecord, Found, Numbers}
use Rattle.upload_claims.specs.Records.{numbers_at, numbers_of, summed, record_at, body_in, claimed_span, span_of, whole_at}
use Rattle.upload_claims.specs.Records.{if_there, next, and_more, records_within, records_in}
use Rattle.upload_claims.specs.Damage.{changes_told, damages, Written, batch_text, behind, written_as, AreRecords, broken_text}
use Rattle.upload_claims.specs.Damage.{IsBroken, RecordsAreReadBack, BatchesAreReadBack}
use Rattle.upload_claims.proofs.Exact.{both_again, number32, bytes_again, length-wide4}
use Rattle.upload_claims.proofs.Texts.{changes_again}

same_refl : (x : List ℕ) → pointwise nat_eq x x ≡ true
same_refl x = search (rules, arith)

length-sum : (a : Address) (front rest : List ℕ) → length (sum a front rest) ≡ 8
unfolding sum
length-sum a front rest = refl

length-head : (a : Address) (len : ℕ) (body : List ℕ) → length (head_text a len body) ≡ 17
length-head a len body =
    omega (
      arith,
      length-append (to_be_bytes w32 len) (to_be_bytes w32 (length body) ++ sum a [] body),
      length-append (to_be_bytes w32 (length body)) (sum a [] body),
      length-wide4 len,
      length-wide4 (length body),
      length-sum a [] body,
    )

-- ---- a head

numbers_again : (a : Address) (len : ℕ) (body : List ℕ) → len < 2 ^ 32 → length body ≤ longest_body
    → numbers_of (head_text a len body) ≡ Ok (len, (length body, sum a [] body))
unfolding numbers_of
numbers_again a len body small short =
    let fields : List ℕ = to_be_bytes w32 len ++ (to_be_bytes w32 (length body) ++ sum a [] body) in
    let inner : numbers_at (fields ++ []) ≡ Ok ((len, (length body, sum a [] body)), []) =
    (both_again (number_at w32) (both (number_at w32) (bytes_at 8)) _ _ _ _ number32
    (both_again (number_at w32) (bytes_at 8) _ _ _ _ number32 (bytes_again 8))).again
    (len, (length body, sum a [] body)) [] (small, (omega arith, length-sum a [] body)) in
    ap (λ r. r >>= λ (n : Numbers × List ℕ). cond (nat_lt longest_body n.0.1.0) (Err TooLong) (Ok n.0))
    (ap numbers_at (sym (append-nil fields)) ∙ inner)
    ∙ ap (λ b. cond b (Err TooLong) (Ok (len, (length body, sum a [] body)))) (le-ltb longest_body (length body) short)

summed_again : (a : Address) (head text : List ℕ) (changes : List Change) → changes_of text ≡ Ok changes
    → summed a (sum a head text) head text ≡ Ok changes
unfolding summed
summed_again a head text changes e = rw (same_refl (sum a head text)) e

-- ---- a record

module _ (a : Address) (changes : List Change) (body rest : List ℕ) (h : IsRecord changes body) where
  abbrev text : List ℕ
  text = changes_text changes

  abbrev head : List ℕ
  head = head_text a (length text) body

  abbrev claimed : List ℕ
  claimed = sum a head text

  parts : record_text a changes body ++ rest ≡ claimed ++ (head ++ (text ++ (body ++ rest)))
  parts = simp append_assoc

  found_again : record_at a (record_text a changes body ++ rest) ≡ Ok (written_as a changes body)
  unfolding record_at
  found_again =
      ap (record_at a) parts
      ∙ rw (
        (bytes_again 8).again claimed (head ++ (text ++ (body ++ rest))) (length-sum a head text),
        (bytes_again 17).again head (text ++ (body ++ rest)) (length-head a (length text) body),
        numbers_again a (length text) body h.sized h.short,
        (bytes_again (length text)).again text (body ++ rest) refl,
        summed_again a head text changes (changes_again changes h.lawful),
      ) refl

  front_parts : record_text a changes body ++ rest ≡ (claimed ++ (head ++ text)) ++ (body ++ rest)
  front_parts = simp append_assoc

  length-front : length (claimed ++ (head ++ text)) ≡ 25 + length text
  length-front =
      omega (
        arith,
        length-append claimed (head ++ text),
        length-append head text,
        length-sum a head text,
        length-head a (length text) body,
      )

  body_again : body_in a (written_as a changes body) (record_text a changes body ++ rest) ≡ Ok body
  unfolding body_in
  body_again =
      ap (body_in a (written_as a changes body)) front_parts
      ∙ rw (
        (bytes_again (25 + length text)).again (claimed ++ (head ++ text)) (body ++ rest) length-front,
        (bytes_again (length body)).again body rest refl,
        same_refl (sum a [] body),
      ) refl

  length-record : length (record_text a changes body) ≡ 25 + length text + length body
  length-record =
      omega (
        arith,
        length-append claimed (head ++ (text ++ body)),
        length-append head (text ++ body),
        length-append text body,
        length-sum a head text,
        length-head a (length text) body,
      )

  -- a number of four bytes after so many
  number_there : (n k : ℕ) (front more : List ℕ) → length front ≡ k → n < 2 ^ 32
      → from_be_bytes w32 (take 4 (drop k (front ++ (to_be_bytes w32 n ++ more)))) ≡ n
  number_there n k front more len lt =
      ap (λ bytes. from_be_bytes w32 (take 4 bytes)) (drop_at front (to_be_bytes w32 n ++ more) k len)
      ∙ ap (from_be_bytes w32) (take_at (to_be_bytes w32 n) more 4 (length-wide4 n)) ∙ from_be_bytes-to_be_bytes_4 n lt

  text_there : from_be_bytes w32 (take 4 (drop 9 (record_text a changes body ++ rest))) ≡ length text
  text_there =
      let front : List ℕ = claimed ++ 1 ∷ [] in
      let more : List ℕ = (to_be_bytes w32 (length body) ++ sum a [] body) ++ (text ++ (body ++ rest)) in
      let is : record_text a changes body ++ rest ≡ front ++ (to_be_bytes w32 (length text) ++ more) =
      simp append_assoc in
      ap (λ bytes. from_be_bytes w32 (take 4 (drop 9 bytes))) is
      ∙ number_there (length text) 9 front more
      (omega (arith, length-append claimed (1 ∷ []), length-sum a head text)) h.sized

  body_there : from_be_bytes w32 (take 4 (drop 13 (record_text a changes body ++ rest))) ≡ length body
  body_there =
      let front : List ℕ = claimed ++ 1 ∷ to_be_bytes w32 (length text) in
      let more : List ℕ = sum a [] body ++ (text ++ (body ++ rest)) in
      let is : record_text a changes body ++ rest ≡ front ++ (to_be_bytes w32 (length body) ++ more) =
      simp append_assoc in
      ap (λ bytes. from_be_bytes w32 (take 4 (drop 13 bytes))) is
      ∙ number_there (length body) 13 front more
      (omega (
        arith,
        length-append claimed (1 ∷ to_be_bytes w32 (length text)),
        length-wide4 (length text),
        length-sum a head text,
      )) (let short = h.short in omega (arith, short))

  span_again : span_of (record_text a changes body ++ rest) ≡ Some (length (record_text a changes body))
  unfolding span_of
  span_again =
      let bytes : List ℕ = record_text a changes body ++ rest in
      let span : claimed_span bytes ≡ length (record_text a changes body) =
      (let e = text_there in let f = body_there in let g = length-record in omega (arith, e, f, g)) in
      let long : length bytes ≡ length (record_text a changes body) + length rest =
      length-append (record_text a changes body) rest in
      let least : nat_lt (length bytes) 25 ≡ false =
      le-ltb (length bytes) 25 (let g = length-record in omega (arith, long, g)) in
      let there : nat_lt (length bytes) (claimed_span bytes) ≡ false =
      le-ltb (length bytes) (claimed_span bytes) (omega (arith, long, span)) in
      rw (least, there) (ap Some span)

pub records_are_read_back : RecordsAreReadBack
records_are_read_back = record { found = found_again; body = body_again; span = span_again }

-- ---- a batch

some_is : (b : ℕ) (n k : ℕ) → Some n ≡ Some k → n ≡ k
some_is b n k e = cc

pub span_long : (bytes : List ℕ) (k : ℕ) → span_of bytes ≡ Some k → (25 ≤ k) × (k ≤ length bytes)
unfolding span_of
span_long bytes k e = by_least (nat_lt (length bytes) 25) (nat_lt (length bytes) (claimed_span bytes)) refl e
  where
    by_least : (b d : Bool) → nat_lt (length bytes) (claimed_span bytes) ≡ d
        → cond b None (cond d None (Some (claimed_span bytes))) ≡ Some k → (25 ≤ k) × (k ≤ length bytes)
    by_least true d f g = absurd cc
    by_least false true f g = absurd cc
    by_least false false f g =
        let is : claimed_span bytes ≡ k = some_is 0 (claimed_span bytes) k g in
        (omega (arith, is), omega (arith, is, ltb-false (length bytes) (claimed_span bytes) f))

-- those after a record, by one of two ways that agree on what is shorter
shorter : (f g : List ℕ → List (Result (List Change) RecordFault)) (n : ℕ) (bytes : List ℕ) (o : Option ℕ)
    → length bytes ≤ suc n → ((xs : List ℕ) → length xs ≤ n → f xs ≡ g xs) → span_of bytes ≡ o
    → and_more f bytes o ≡ and_more g bytes o
shorter f g n bytes None h same e = refl
shorter f g n bytes (Some span) h same e =
    let long = span_long bytes span e in
    same (drop span bytes) (omega (arith, length-drop span bytes, long.0, h))

enough : (n m : ℕ) (a : Address) (bytes : List ℕ) → length bytes ≤ n → length bytes ≤ m
    → records_within n a bytes ≡ records_within m a bytes
enough zero zero a bytes h k = refl
enough zero (suc m) a [] h k = refl
enough zero (suc m) a (b ∷ bytes) h k = absurd (omega (arith, h))
enough (suc n) zero a [] h k = refl
enough (suc n) zero a (b ∷ bytes) h k = absurd (omega (arith, k))
enough (suc n) (suc m) a [] h k = refl
enough (suc n) (suc m) a (b ∷ bytes) h k =
    let same : (xs : List ℕ) → length xs ≤ min n m
    → records_within n (next a) xs ≡ records_within m (next a) xs =
    λ xs le. enough n m (next a) xs (omega (arith, le)) (omega (arith, le)) in
    ap (λ more. whole_at a (b ∷ bytes) ∷ more)
    (shorter (records_within n (next a)) (records_within m (next a)) (min n m) (b ∷ bytes) (span_of (b ∷ bytes))
    (omega (arith, h, k)) same refl)

-- the first record, and those after it
pub unrolled : (a : Address) (bytes : List ℕ) → 0 < length bytes
    → records_in a bytes ≡ whole_at a bytes ∷ and_more (records_in (next a)) bytes (span_of bytes)
unfolding records_in
unrolled a [] h = absurd (omega (arith, h))
unrolled a (b ∷ bytes) h =
    ap (λ more. whole_at a (b ∷ bytes) ∷ more)
    (shorter (records_within (length bytes) (next a)) (records_in (next a)) (length bytes) (b ∷ bytes)
    (span_of (b ∷ bytes)) (omega arith)
    (λ xs le. enough (length bytes) (length xs) (next a) xs le (omega arith)) refl)

-- a record of which all is there
first_of : (a : Address) (front rest : List ℕ) (read : Result Found RecordFault) → span_of (front ++ rest) ≡ Some (length front)
    → record_at a (front ++ rest) ≡ read
    → records_in a (front ++ rest) ≡ if_there (Some 0) read ∷ records_in (next a) rest
unfolding whole_at
first_of a front rest read span is =
    let long = span_long (front ++ rest) (length front) span in
    unrolled a (front ++ rest) (omega (arith, long.0, long.1))
    ∙ ap (λ o. if_there o (record_at a (front ++ rest)) ∷ and_more (records_in (next a)) (front ++ rest) o) span
    ∙ ap (λ r. if_there (Some (length front)) r ∷ records_in (next a) (drop (length front) (front ++ rest))) is
    ∙ ap (λ r. r ∷ records_in (next a) (drop (length front) (front ++ rest))) (any_span read)
    ∙ ap (λ bytes. if_there (Some 0) read ∷ records_in (next a) bytes) (drop_at front rest (length front) refl)
  where
    any_span : (r : Result Found RecordFault) → if_there (Some (length front)) r ≡ if_there (Some 0) r
    any_span (Ok found) = refl
    any_span (Err fault) = refl

-- how whole records are read, and then others
abbrev all_read : List Written → List (Result (List Change) RecordFault) → List (Result (List Change) RecordFault)
all_read [] rs = rs
all_read (w ∷ ws) rs = Ok w.0 ∷ all_read ws rs

all_whole : (a : Address) (ws : List Written) (rest : List ℕ) → AreRecords ws
    → records_in a (batch_text a ws ++ rest) ≡ all_read ws (records_in (behind a ws) rest)
all_whole a [] rest h = refl
all_whole a (w ∷ ws) rest (h, hs) =
    let front : List ℕ = record_text a w.0 w.1 in
    let more : List ℕ = batch_text (next a) ws ++ rest in
    ap (records_in a) (append_assoc front (batch_text (next a) ws) rest)
    ∙ first_of a front more (Ok (written_as a w.0 w.1)) (span_again a w.0 w.1 more h) (found_again a w.0 w.1 more h)
    ∙ ap (λ rs. Ok w.0 ∷ rs) (all_whole (next a) ws rest hs)

none_in : (a : Address) → records_in a [] ≡ []
unfolding records_in
none_in a = refl

records_all : (a : Address) (ws : List Written) → AreRecords ws → records_in a (batch_text a ws) ≡ all_read ws []
records_all a ws h =
    ap (records_in a) (sym (append-nil (batch_text a ws))) ∙ all_whole a ws [] h
    ∙ ap (all_read ws) (none_in (behind a ws))

records_left : (a : Address) (ws : List Written) (bytes : List ℕ) (vs : List Written) (fault : RecordFault)
    → AreRecords ws → AreRecords vs → IsBroken (behind a ws) bytes (batch_text (next (behind a ws)) vs) fault
    → records_in a (broken_text a ws bytes vs) ≡ all_read ws (Err fault ∷ all_read vs [])
records_left a ws bytes vs fault h k broken =
    let b : Address = behind a ws in
    all_whole a ws (bytes ++ batch_text (next b) vs) h
    ∙ ap (all_read ws) (first_of b bytes (batch_text (next b) vs) (Err fault) broken.span broken.read
    ∙ ap (λ rs. Err fault ∷ rs) (records_all (next b) vs k))

told_before : (ws : List Written) (rs : List (Result (List Change) RecordFault))
    → changes_told (all_read ws rs) ≡ flat_map (λ w. w.0) ws ++ changes_told rs
told_before [] rs = refl
told_before (w ∷ ws) rs =
    ap (λ cs. w.0 ++ cs) (told_before ws rs)
    ∙ sym (append_assoc w.0 (flat_map (λ v. v.0) ws) (changes_told rs))
    ∙ ap (λ cs. cs ++ changes_told rs) (sym (flat_map-cons (λ v. v.0) w ws))

damages_behind : (a : Address) (ws : List Written) (rs : List (Result (List Change) RecordFault))
    → damages a (all_read ws rs) ≡ damages (behind a ws) rs
damages_behind a [] rs = refl
damages_behind a (w ∷ ws) rs = damages_behind (next a) ws rs

all_told : (ws : List Written) → changes_told (all_read ws []) ≡ flat_map (λ w. w.0) ws
all_told ws = told_before ws [] ∙ append-nil (flat_map (λ w. w.0) ws)

pub batches_are_read_back : BatchesAreReadBack
batches_are_read_back = record {
  claims = λ a ws h. ap changes_told (records_all a ws h) ∙ all_told ws;
  damage = λ a ws h. ap (damages a) (records_all a ws h) ∙ damages_behind a ws [];
  claims_left = λ a ws bytes vs fault h k broken.
      ap changes_told (records_left a ws bytes vs fault h k broken)
      ∙ told_before ws (Err fault ∷ all_read vs []) ∙ ap (λ cs. flat_map (λ w. w.0) ws ++ cs) (all_told vs);
  damage_found = λ a ws bytes vs fault h k broken.
      ap (damages a) (records_left a ws bytes vs fault h k broken)
      ∙ damages_behind a ws (Err fault ∷ all_read vs [])
      ∙ ap (λ ds. record { at = behind a ws; fault = fault } ∷ ds) (damages_behind (next (behind a ws)) vs []);
}
