-- How a size line goes on.
use Rattle.std.proofs.Common.{◌≡◌, ℕ, ◌+◌, ◌*◌, ◌<◌, ◌≤◌, true, false, List, [], ◌∷◌, ◌++◌, All, length, refl, arith}
use Rattle.std.proofs.Common.{◌∙◌, sym, ap, IsTrue, append_assoc, length-append, inl, inr, rules}
use Rattle.std.proofs.lemmas.List.Elements.{All-append, All-head, All-tail, All-cons, All-nil}
use Rattle.std.proofs.lemmas.Bool.{cases_Bool}
use Rattle.std.specs.Char.{is_ascii_hexdigit, digit_value}
use Rattle.httparse.proofs.ChunkLemmas.{digits_value_after_push}
use Rattle.http_wire.specs.Body.{IsSize}
use Rattle.http_wire.specs.Inner.SizeLines.{AreDigits, NeverLine}

abbrev pub IsHex : ℕ → Type 0
IsHex b = IsTrue (is_ascii_hexdigit b)

-- digits before a CR are no more than those before any byte
pub digits_le : (ds es r q : List ℕ) → All IsHex ds → ds ++ r ≡ es ++ 13 ∷ q → length ds ≤ length es
digits_le [] es r q h e = omega arith
digits_le (x ∷ ds) [] r q h e = cc (All-head IsHex x ds h)
digits_le (x ∷ ds) (y ∷ es) r q h e = search (rules, arith, All-tail, digits_le ds es r q (All-tail IsHex x ds h))

-- the first byte that is no digit is the CR
pub stops_at : (ds es r q : List ℕ) (b : ℕ) → All IsHex ds → All IsHex es → is_ascii_hexdigit b ≡ false
    → ds ++ b ∷ r ≡ es ++ 13 ∷ q → (ds ≡ es) × (b ≡ 13) × (r ≡ q)
stops_at [] [] r q b h g none_hex e = (refl, cc, cc)
stops_at [] (y ∷ es) r q b h g none_hex e = cc (All-head IsHex y es g)
stops_at (x ∷ ds) [] r q b h g none_hex e = cc (All-head IsHex x ds h)
stops_at (x ∷ ds) (y ∷ es) r q b h g none_hex e =
    search (rules, arith, All-tail, stops_at ds es r q b (All-tail IsHex x ds h) (All-tail IsHex y es g) none_hex)

line_cut : (front more digits rest : List ℕ) (b : ℕ) → (front ++ b ∷ []) ++ more ≡ digits ++ (13 ∷ 10 ∷ [] ++ rest)
    → front ++ b ∷ more ≡ digits ++ 13 ∷ (10 ∷ rest)
line_cut front more digits rest b e = sym (append_assoc front (b ∷ []) more) ∙ e

-- a byte that is neither a digit nor a CR
pub never_other : (front : List ℕ) (b count value : ℕ) → AreDigits front count value → is_ascii_hexdigit b ≡ false
    → (b ≡ 13 → ⊥) → NeverLine (front ++ b ∷ [])
never_other front b count value d none_hex other more digits rest size e =
    other (stops_at front digits more (10 ∷ rest) b d.hex size.hex none_hex (line_cut front more digits rest b e)).1

-- a ninth digit
pub never_ninth : (front : List ℕ) (b count value : ℕ) → AreDigits front count value → count ≡ 8 → (b ≡ 13 → ⊥)
    → NeverLine (front ++ b ∷ [])
never_ninth front b count value d eight other more digits rest size e = elim (cases_Bool (is_ascii_hexdigit b)) [
  | inl hex ↦
      let all : All IsHex (front ++ b ∷ []) =
      All-append IsHex front (b ∷ []) d.hex (All-cons IsHex b [] hex (All-nil IsHex)) in
      let under = digits_le (front ++ b ∷ []) digits more (10 ∷ rest) all e in
      let few = size.few in
      let long = d.count_is in
      omega (arith, under, few, long, length-append front (b ∷ []))
  | inr plain ↦ never_other front b count value d plain other more digits rest size e
]

-- no LF after the CR
pub never_cr : (front ds : List ℕ) (b : ℕ) → front ≡ ds ++ 13 ∷ [] → IsSize ds → (b ≡ 10 → ⊥)
    → NeverLine (front ++ b ∷ [])
never_cr front ds b is s other more digits rest size e =
    let start : (ds ++ 13 ∷ []) ++ (b ∷ more) ≡ digits ++ 13 ∷ (10 ∷ rest) =
    ap (λ t. t ++ (b ∷ more)) (sym is) ∙ line_cut front more digits rest b e in
    let flat : ds ++ 13 ∷ (b ∷ more) ≡ digits ++ 13 ∷ (10 ∷ rest) =
    sym (append_assoc ds (13 ∷ []) (b ∷ more)) ∙ start in
    let tail = (stops_at ds digits (b ∷ more) (10 ∷ rest) 13 s.hex size.hex refl flat).2 in
    other (cc)

-- one more digit
pub one_digit : (front : List ℕ) (b count value : ℕ) → AreDigits front count value → count < 8
    → is_ascii_hexdigit b ≡ true → AreDigits (front ++ b ∷ []) (count + 1) (value * 16 + digit_value b)
one_digit front b count value d few hex =
    omega (
      arith,
      length-append front (b ∷ []),
      All-append IsHex front (b ∷ []) d.hex (All-cons IsHex b [] hex (All-nil IsHex)),
      All-cons IsHex b,
      All-nil IsHex,
      digits_value_after_push 16 0 front b,
    )
