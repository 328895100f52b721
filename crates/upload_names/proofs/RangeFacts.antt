-- Numerals, and that the test of a range's text decides its definition.
use Rattle.std.proofs.Common.{◌≡◌, ℕ, suc, ◌+◌, ◌-◌, ◌*◌, ◌<◌, ◌≤◌, min, true, false, List, [], ◌∷◌, ◌++◌}
use Rattle.std.proofs.Common.{length, take, drop, get_or, Some, None, refl, sym, ap, ◌∙◌}
use Rattle.std.proofs.Common.{cond, arith, append_assoc, length-append, rules}
use Rattle.std.specs.Prelude.{nat_lt, position, option_and_then, not}
use Rattle.std.specs.List.{list_all, position_or_len}
use Rattle.std.specs.Char.{is_ascii_digit, digit_value}
use Rattle.std.specs.Str.Parse.{digits_value}
use Rattle.std.specs.Int.{IsInRange}
use Rattle.std.proofs.lemmas.Bool.{and_parts, cases_Bool, eqb-true, ltb-true, lt-ltb}
use Rattle.std.proofs.lemmas.Int.Digits.{digits_value_more}
use Rattle.std.proofs.lemmas.Str.{digit_value_digit}
use Rattle.std.proofs.lemmas.List.Sums.{split_at_first}
use Rattle.std.proofs.lemmas.List.{take_at, drop_at}
use Rattle.std.proofs.lemmas.List.Folds.{list_all_more, list_all_at}
use Rattle.upload_names.specs.ByteRange.{Span, range_cap, capped_value, minus, is_minus}
use Rattle.upload_names.specs.ByteRange.{numeral_value, span_of, span_round, range_of, SpellsRange}

-- ---- a numeral, digit by digit

-- a digit's value
digit_minus : (b : ℕ) → IsInRange 48 57 b → (digit_value b ≡ b - 48) × (b - 48 ≤ 9)
digit_minus b range = omega (arith, digit_value_digit b range)

pub digits_more : (text : List ℕ) (i : ℕ) → i < length text → list_all is_ascii_digit (take i text) ≡ true
    → is_ascii_digit (get_or text i 0) ≡ true → list_all is_ascii_digit (take (i + 1) text) ≡ true
digits_more text i inside each one = cc (list_all_more is_ascii_digit text i 0 inside)

-- capping each time is capping at the end
capped_step : (x d cap : ℕ) → min (min x cap * 10 + d) cap ≡ min (x * 10 + d) cap
capped_step x d cap = omega arith

pub value_more : (text : List ℕ) (i : ℕ) → i < length text → IsInRange 48 57 (get_or text i 0)
    → min (capped_value (take i text) * 10 + (get_or text i 0 - 48)) range_cap ≡ capped_value (take (i + 1) text)
value_more text i inside range =
    omega (
      arith,
      digit_minus (get_or text i 0) range,
      capped_step (digits_value 10 (take i text)) (digit_value (get_or text i 0)) range_cap,
      digits_value_more 10 text i inside,
    )

-- what a whole text of digits gives
pub numeral_value-digits : (text : List ℕ) → 0 < length text → list_all is_ascii_digit text ≡ true
    → numeral_value text ≡ Some (capped_value text)
numeral_value-digits text some each = cc (lt-ltb 0 (length text) some)

pub numeral_value-other : (text : List ℕ) (i : ℕ) → i < length text → is_ascii_digit (get_or text i 0) ≡ false
    → numeral_value text ≡ None
numeral_value-other text i inside other = search (rules, arith, list_all_at)

-- ---- where a text is cut

-- a byte that is no hyphen is passed over
passed_over : (c : ℕ) (text : List ℕ) → is_minus c ≡ false
    → position_or_len is_minus (c ∷ text) ≡ suc (position_or_len is_minus text)
passed_over c text other = search (rules, arith)

stops : (c : ℕ) (text : List ℕ) → is_minus c ≡ true → position_or_len is_minus (c ∷ text) ≡ 0
stops c text is = ap (λ b. cond (not b) (1 + position_or_len is_minus text) 0) is

-- the first hyphen is one
hyphen_at : (text : List ℕ) → position_or_len is_minus text < length text
    → get_or text (position_or_len is_minus text) 0 ≡ minus
hyphen_at [] inside = absurd (omega (arith, inside))
hyphen_at (c ∷ text) inside = search (rules, arith, cases_Bool, stops, eqb-true, passed_over, hyphen_at text)

-- digits are passed over, to the hyphen behind them
hyphen_behind : (first rest : List ℕ) → list_all is_ascii_digit first ≡ true
    → position_or_len is_minus (first ++ minus ∷ rest) ≡ length first
hyphen_behind [] rest h = stops minus rest refl
hyphen_behind (c ∷ first) rest h = search (rules, arith, and_parts, passed_over, hyphen_behind first rest)

-- ---- the test decides

cut_spells : (text : List ℕ) (span : Span) → position_or_len is_minus text < length text
    → span_round text (position_or_len is_minus text) ≡ Some span → SpellsRange text span
cut_spells text span inside h = grind (arith, split_at_first is_minus text 0 inside, hyphen_at text inside)

pub range_of-spells : (text : List ℕ) (span : Span) → range_of text ≡ Some span → SpellsRange text span
unfolding range_of
range_of-spells text span h = search (rules, arith, cases_Bool, cut_spells, ltb-true)

pub range_of-spelled : (text : List ℕ) (span : Span) → SpellsRange text span → range_of text ≡ Some span
unfolding range_of
range_of-spelled text span s =
    let whole = s.first ++ minus ∷ s.last in
    let place = hyphen_behind s.first s.last s.is_first.digits in
    let long = length-append s.first (minus ∷ s.last) in
    let inside : nat_lt (length s.first) (length whole) ≡ true =
    lt-ltb (length s.first) (length whole) (omega (arith, long)) in
    let behind : drop (length s.first + 1) whole ≡ s.last = drop_behind s.first s.last in
    let one = numeral_value-digits s.first s.is_first.filled s.is_first.digits in
    let two = numeral_value-digits s.last s.is_last.filled s.is_last.digits in
    ap (λ t. option_and_then (span_round t) (position is_minus t)) s.cut
    ∙ ap (λ k. option_and_then (span_round whole) (cond (nat_lt k (length whole)) (Some k) None)) place
    ∙ ap (λ b. option_and_then (span_round whole) (cond b (Some (length s.first)) None)) inside
    ∙ ap (λ f. span_of (numeral_value f) (numeral_value (drop (length s.first + 1) whole)))
    (take_at s.first (minus ∷ s.last) (length s.first) refl)
    ∙ ap (λ l. span_of (numeral_value s.first) (numeral_value l)) behind
    ∙ ap (λ o. span_of o (numeral_value s.last)) one
    ∙ ap (λ o. span_of (Some (capped_value s.first)) o) two
    ∙ spelled (capped_value s.first) (capped_value s.last) (sym s.spelled_first) (sym s.spelled_last)
  where
    drop_behind : (first last : List ℕ) → drop (length first + 1) (first ++ minus ∷ last) ≡ last
    drop_behind first last =
        let e : first ++ minus ∷ last ≡ (first ++ minus ∷ []) ++ last = sym (append_assoc first (minus ∷ []) last) in
        ap (drop (length first + 1)) e
        ∙ drop_at (first ++ minus ∷ []) last (length first + 1) (length-append first (minus ∷ []))

    spelled : (a b : ℕ) → a ≡ span.first → b ≡ span.last → Some (record { first = a; last = b }) ≡ Some span
    spelled a b x y =
        ap (λ n. Some (record { first = n; last = b })) x ∙ ap (λ n. Some (record { first = span.first; last = n })) y
