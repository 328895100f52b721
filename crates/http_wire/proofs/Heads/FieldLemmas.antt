-- Fields one after another, and numbers digit by digit.
use Rattle.std.proofs.Common.{◌≡◌, ℕ, ◌+◌, ◌*◌, ◌-◌, ◌<◌, ◌≤◌, Bool, true, false, List, [], ◌∷◌, ◌++◌, length, map}
use Rattle.std.proofs.Common.{get_or, take, refl, sym, ap, ◌∙◌, arith, cond, add-one, rules}
use Rattle.std.specs.Prelude.{Err, Ok, nat_lt, ◌&&◌, ◌||◌, codes}
use Rattle.std.specs.List.{list_all, list_any}
use Rattle.std.specs.Char.{is_ascii_digit, digit_value}
use Rattle.std.specs.Str.Parse.{digits_value}
use Rattle.std.proofs.Math.Seq.{take-suc}
use Rattle.std.specs.Int.{IsInRange}
use Rattle.std.proofs.lemmas.Str.{digit_value_digit}
use Rattle.std.proofs.lemmas.List.{take_all}
use Rattle.std.specs.Prelude.{◌==◌}
use Rattle.std.proofs.lemmas.List.{map-append, append-nil}
use Rattle.std.proofs.lemmas.List.Elements.{filter-append}
use Rattle.std.proofs.lemmas.Bool.{lt-ltb, le-ltb}
use Rattle.std.proofs.lemmas.List.Folds.{list_all_at, list_all-append, list_any-append}
use Rattle.httparse.proofs.ChunkLemmas.{digits_value_after_push}
use Rattle.http_wire.specs.Fields.{Fields, same_word, values_of, lists_close}
use Rattle.http_wire.specs.declared.fault.Bad.TheVariants as bads
use Rattle.http_wire.specs.Body.{is_number, length_of}

-- the value of a field, if it has the name
abbrev value_if : List ℕ → List ℕ × List ℕ → List (List ℕ)
value_if name f = map (λ g. g.1) (cond (same_word f.0 name) (f ∷ []) [])

values_of-push : (name : List ℕ) (fields : Fields) (f : List ℕ × List ℕ)
    → values_of name (fields ++ f ∷ []) ≡ values_of name fields ++ value_if name f
unfolding values_of
values_of-push name fields f = simp (filter-append, map-append)

pub values_of-same : (name : List ℕ) (fields : Fields) (f : List ℕ × List ℕ) → same_word f.0 name ≡ true
    → values_of name (fields ++ f ∷ []) ≡ values_of name fields ++ f.1 ∷ []
values_of-same name fields f same = cc (values_of-push name fields f)

pub values_of-differs : (name : List ℕ) (fields : Fields) (f : List ℕ × List ℕ) → same_word f.0 name ≡ false
    → values_of name (fields ++ f ∷ []) ≡ values_of name fields
values_of-differs name fields f differs = cc (values_of-push name fields f, append-nil (values_of name fields))

-- one more field that is no Connection, and one that is
pub close-differs : (fields : Fields) (f : List ℕ × List ℕ) (found : Bool) → same_word f.0 (codes "connection") ≡ false
    → found ≡ list_any lists_close (values_of (codes "connection") fields)
    → found ≡ list_any lists_close (values_of (codes "connection") (fields ++ f ∷ []))
close-differs fields f found differs so_far = cc (values_of-differs (codes "connection") fields f differs)

pub close-same : (fields : Fields) (f : List ℕ × List ℕ) (found : Bool) → same_word f.0 (codes "connection") ≡ true
    → found ≡ list_any lists_close (values_of (codes "connection") fields)
    → (found || (lists_close f.1 || false)) ≡ list_any lists_close (values_of (codes "connection") (fields ++ f ∷ []))
close-same fields f found same so_far =
    cc (
      list_any-append lists_close (values_of (codes "connection") fields) (f.1 ∷ []),
      values_of-same (codes "connection") fields f same,
    )

pub or-false : (b : Bool) → b ≡ (b || false)
or-false true = refl
or-false false = refl

pub map_take-next : {A B : Type 0} (f : A → B) (xs : List A) (i : ℕ) (d : A) → i < length xs
    → map f (take (i + 1) xs) ≡ map f (take i xs) ++ f (get_or xs i d) ∷ []
map_take-next f xs i d lt = cc (add-one i, take-suc xs i d lt, map-append f (take i xs) (get_or xs i d ∷ []))

-- ---- numbers

and-false : (b : Bool) → (b && false) ≡ false
and-false true = refl
and-false false = refl

length_by : (max : ℕ) (value : List ℕ) (a b : Bool) → is_number value ≡ a → nat_lt max (digits_value 10 value) ≡ b
    → length_of max value ≡ cond a (cond b (Err bads.TooLarge) (Ok (digits_value 10 value))) (Err bads.Length)
length_by max value a b p q = cc

is_number-empty : (v : List ℕ) → length v ≡ 0 → is_number v ≡ false
unfolding is_number
is_number-empty v e = ap (λ n. nat_lt 0 n && list_all is_ascii_digit v) e

is_number-other : (v : List ℕ) → list_all is_ascii_digit v ≡ false → is_number v ≡ false
unfolding is_number
is_number-other v e = ap (λ b. nat_lt 0 (length v) && b) e ∙ and-false (nat_lt 0 (length v))

pub length_of-empty : (max : ℕ) (value : List ℕ) → length value ≡ 0 → length_of max value ≡ Err bads.Length
length_of-empty max value none = length_by max value false _ (is_number-empty value none) refl

pub length_of-other : (max : ℕ) (value : List ℕ) (i : ℕ) → i < length value
    → is_ascii_digit (get_or value i 0) ≡ false → length_of max value ≡ Err bads.Length
length_of-other max value i lt other = search (rules, arith, length_by, is_number-other, list_all_at)

is_number-yes : (value : List ℕ) → 0 < length value → list_all is_ascii_digit value ≡ true → is_number value ≡ true
unfolding is_number
is_number-yes value some each = cc (lt-ltb 0 (length value) some)

pub length_of-over : (max : ℕ) (value : List ℕ) → 0 < length value → list_all is_ascii_digit value ≡ true
    → max < digits_value 10 value → length_of max value ≡ Err bads.TooLarge
length_of-over max value some each over = simp (length_by, is_number-yes, lt-ltb)

pub length_of-ok : (max : ℕ) (value : List ℕ) → 0 < length value → list_all is_ascii_digit value ≡ true
    → digits_value 10 value ≤ max → length_of max value ≡ Ok (digits_value 10 value)
length_of-ok max value some each fits = simp (length_by, is_number-yes, le-ltb)

pub value-next : (value : List ℕ) (i : ℕ) → i < length value
    → digits_value 10 (take (i + 1) value) ≡ digits_value 10 (take i value) * 10 + digit_value (get_or value i 0)
value-next value i lt =
    cc (add-one i, take-suc value i 0 lt, digits_value_after_push 10 0 (take i value) (get_or value i 0))

pub digits-next : (value : List ℕ) (i : ℕ) → i < length value → list_all is_ascii_digit (take i value) ≡ true
    → is_ascii_digit (get_or value i 0) ≡ true → list_all is_ascii_digit (take (i + 1) value) ≡ true
digits-next value i lt each one =
    cc (add-one i, take-suc value i 0 lt, list_all-append is_ascii_digit (take i value) (get_or value i 0 ∷ []))

pub not_both : {b : Bool} → b ≡ false → b ≡ true → ⊥
not_both f t = cc

-- a digit's value
pub digit-minus : (b : ℕ) → IsInRange 48 57 b → (digit_value b ≡ b - 48) × (b - 48 ≤ 9)
digit-minus b range = omega (arith, digit_value_digit b range)

pub take_to_end : (value : List ℕ) (i : ℕ) → length value ≤ i → take i value ≡ value
take_to_end value i le = take_all i value le

pub some_length : (value : List ℕ) → false ≡ (length value == 0) → 0 < length value
some_length [] e = absurd (not_both (sym e) refl)
some_length (x ∷ value) e = omega arith
