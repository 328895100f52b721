-- What blocks stand for.
use Rattle.std.proofs.Common.{◌≡◌, ◌⊎◌, inl, inr, ℕ, zero, suc, ◌+◌, ◌<◌, ◌≤◌, ◌^◌, nat_le, List}
use Rattle.std.proofs.Common.{[], ◌∷◌, ◌++◌, length, take, drop, Some, None, refl, sym, ◌∙◌, ap, arith, append_assoc}
use Rattle.std.proofs.Common.{length-append, length-drop, rules}
use Rattle.std.proofs.lemmas.List.{take_at, drop_at}
use Rattle.std.proofs.lemmas.Bool.{cases_lt, le-leb, lt-leb}
use Rattle.std.proofs.lemmas.Nat.{from_be_bytes-to_be_bytes_8}
use Rattle.std.proofs.lemmas.List.Elements.{All-tail, All-head}
use Rattle.journal.specs.Format.{number_bytes, number_of, block, blocks, IsShort, AreShort, first, and_more}
use Rattle.journal.specs.Format.{records_within, records}

pub length-number_bytes : (n : ℕ) → length (number_bytes n) ≡ 8
unfolding number_bytes
length-number_bytes n = refl

pub number_of-number_bytes : (n : ℕ) → n < 2 ^ 64 → number_of (number_bytes n) ≡ n
unfolding number_bytes number_of
number_of-number_bytes n fits = from_be_bytes-to_be_bytes_8 n fits

-- bytes that have all of a record
pub first_found : (bytes body : List ℕ) (size : ℕ) → number_of (take 8 bytes) ≡ size → 8 + size ≤ length bytes → take
    size (drop 8 bytes) ≡ body → first bytes ≡ Some (body, drop (8 + size) bytes)
unfolding first
first_found bytes body size is fits body_is = search (rules, arith, nat_le, le-leb)

-- and those that don't
pub first_short : (bytes : List ℕ) → length bytes < 8 + number_of (take 8 bytes) → 0 < length bytes → first bytes ≡
    Some (bytes, [])
unfolding first
first_short bytes short some = simp (nat_le, lt-leb, le-leb)

pub first_nil : first [] ≡ None
unfolding first number_of
first_nil = refl

pub nil_first : (bytes : List ℕ) → first bytes ≡ None → bytes ≡ []
nil_first [] none = refl
nil_first (b ∷ bytes) none = search (rules, arith, cases_lt, first_short, first_found)

-- one that is there leaves less
pub first_less : (bytes : List ℕ) (found : List ℕ × List ℕ) → first bytes ≡ Some found → length found.1 < length bytes
first_less [] found is = absurd (cc (sym first_nil ∙ is))
first_less (b ∷ bytes) found is = search (rules, arith, cases_lt, first_short, first_found, length-drop)

none_within : (n : ℕ) (bytes : List ℕ) → first bytes ≡ None → records_within n bytes ≡ []
none_within zero bytes none = refl
none_within (suc n) bytes none = ap (and_more (records_within n)) none

some_within : (n : ℕ) (bytes : List ℕ) (found : List ℕ × List ℕ) → first bytes ≡ Some found → records_within (suc n)
    bytes ≡ found.0 ∷ records_within n found.1
some_within n bytes found is = ap (and_more (records_within n)) is

cases_first : (bytes : List ℕ) → (first bytes ≡ None) ⊎ ((found : List ℕ × List ℕ) × (first bytes ≡ Some found))
cases_first bytes =
    elim (first bytes) as (λ r. (r ≡ None) ⊎ ((found : List ℕ × List ℕ) × (r ≡ Some found)))
    [ None ↦ inl refl | Some found ↦ inr (found, refl) ]

-- any number that is no less than the length is enough
enough : (m n : ℕ) (bytes : List ℕ) → length bytes ≤ m → length bytes ≤ n → records_within m bytes ≡ records_within n
    bytes
enough zero n [] m_is n_is = sym (none_within n [] first_nil)
enough zero n (b ∷ bytes) m_is n_is = absurd (omega arith)
enough (suc m) zero [] m_is n_is = none_within (suc m) [] first_nil
enough (suc m) zero (b ∷ bytes) m_is n_is = absurd (omega arith)
enough (suc m) (suc n) bytes m_is n_is =
    search (rules, arith, cases_first, none_within, first_less, some_within, enough m n)

pub records_none : (bytes : List ℕ) → first bytes ≡ None → records bytes ≡ []
unfolding records
records_none bytes none = none_within (length bytes) bytes none

pub records_some : (bytes : List ℕ) (found : List ℕ × List ℕ) → first bytes ≡ Some found → records bytes ≡ found.0 ∷
    records found.1
unfolding records
records_some bytes found is = search (rules, arith, first_less, enough, some_within)

pub first_block : (bytes rest : List ℕ) → length bytes < 2 ^ 64 → first (block bytes ++ rest) ≡ Some (bytes, rest)
first_block bytes rest fits =
    let head = number_bytes (length bytes) in
    let all = (head ++ bytes) ++ rest in
    let regroup : all ≡ head ++ (bytes ++ rest) = append_assoc head bytes rest in
    let eight = length-number_bytes (length bytes) in
    let size = number_of (take 8 all) in
    let sized : size ≡ length bytes =
    ap (λ (l : List ℕ). number_of (take 8 l)) regroup ∙ ap number_of (take_at head (bytes ++ rest) 8 eight) ∙
    number_of-number_bytes (length bytes) fits in
    let body : take size (drop 8 all) ≡ bytes =
    ap (λ (l : List ℕ). take size (drop 8 l)) regroup ∙ ap (λ (l : List ℕ). take size l)
    (drop_at head (bytes ++ rest) 8 eight) ∙ take_at bytes rest size (sym sized) in
    let left : drop (8 + size) all ≡ rest = drop_at (head ++ bytes) rest (8 + size)
    (omega (arith, length-append head bytes)) in
    first_found all bytes (length bytes) sized
    (omega (arith, length-append (head ++ bytes) rest, length-append head bytes))
    (ap (λ (n : ℕ). take n (drop 8 all)) (sym sized) ∙ body)
    ∙ ap (λ (l : List ℕ). Some (bytes, l)) (ap (λ (n : ℕ). drop (8 + n) all) (sym sized) ∙ left)

-- blocks, and then whatever the rest stands for
pub records-blocks : (recorded : List (List ℕ)) (rest : List ℕ) → AreShort recorded → records
    (blocks recorded ++ rest) ≡ recorded ++ records rest
records-blocks [] rest short = refl
records-blocks (bytes ∷ recorded) rest short =
    let is = first_block bytes (blocks recorded ++ rest) (All-head IsShort bytes recorded short) in
    ap records (append_assoc (block bytes) (blocks recorded) rest)
    ∙ records_some (block bytes ++ (blocks recorded ++ rest)) (bytes, blocks recorded ++ rest) is
    ∙ ap (λ (rs : List (List ℕ)). bytes ∷ rs) (records-blocks recorded rest (All-tail IsShort bytes recorded short))
