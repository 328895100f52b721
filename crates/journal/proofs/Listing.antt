-- What batches stand for that lie one behind the other.
use Rattle.std.proofs.Common.{◌≡◌, ◌≢◌, ◌⊎◌, inl, inr, ℕ, zero, suc, ◌+◌, ◌%◌, ◌<◌, ◌≤◌, Bool, true, false, rules}
use Rattle.std.proofs.Common.{cond, ◌&&◌, nat_le, List, [], ◌∷◌, ◌++◌, length, take, drop}
use Rattle.std.proofs.Common.{slice_index, Option, Some, None, refl, sym, ◌∙◌, ap, arith, append_assoc, length-append}
use Rattle.std.proofs.Common.{length-take, length-drop, get_or-take}
use Rattle.std.proofs.lemmas.List.{take-append-le, drop-append-le, get_or_append_left}
use Rattle.std.proofs.lemmas.List.{nil_from_length, drop-take}
use Rattle.std.proofs.lemmas.Bool.{cases_Bool, le-leb, eq-eqb, eqb-true, lt-leb, cases_eq, cases_lt}
use Rattle.journal.specs.Format.{Kept, sector, whole, number_of, number_in, time_in, length_in, sum_in, sum_here, sum_of}
use Rattle.journal.specs.Format.{span, records, behind, next, staged, with_more, one_by_one, batches, Lie}
use Rattle.journal.proofs.Places.{take_within}

pub record IsWhole (n : ℕ) : Type 0 where
  pub no_less : n ≤ whole n
  pub no_more : whole n < n + 4096
  pub even : whole n % 4096 ≡ 0

pub is_whole : (n : ℕ) → IsWhole n
unfolding whole
is_whole n = record { no_less = omega arith; no_more = omega arith; even = omega arith }

-- a batch takes a sector at least
pub span_some : (bytes : List ℕ) → 4096 ≤ span bytes
span_some bytes = let w = is_whole (32 + length_in bytes) in omega (arith, w.no_less, w.even)

-- what stands behind a gate, if all of it is there
abbrev pub there : List ℕ → Kept × List ℕ
there bytes = ((time_in bytes, records (take (length_in bytes) (drop 32 bytes))), drop (span bytes) bytes)

-- what is read behind a gate, by what was found of its number, its sum and its room
abbrev by_cases : List ℕ → Bool → Bool → Bool → Option (Kept × List ℕ)
by_cases bytes number sum room = cond (number && (sum && room)) (Some (there bytes)) None

pub behind_there : (number : ℕ) (bytes : List ℕ) → number_in bytes ≡ number → sum_in bytes ≡ sum_here bytes
    → span bytes ≤ length bytes → behind number bytes ≡ Some (there bytes)
unfolding behind
behind_there number bytes same sum fits = simp (eq-eqb, le-leb)

pub behind_other : (number : ℕ) (bytes : List ℕ) → number_in bytes ≢ number → behind number bytes ≡ None
unfolding behind
behind_other number bytes other = search (rules, arith, cases_Bool, eqb-true, nat_le)

none_anyway : (bytes : List ℕ) (b c : Bool) → by_cases bytes b false c ≡ None
none_anyway bytes true c = refl
none_anyway bytes false c = refl

none_short : (bytes : List ℕ) (b c : Bool) → by_cases bytes b c false ≡ None
none_short bytes b c = search (rules, arith)

pub behind_changed : (number : ℕ) (bytes : List ℕ) → sum_in bytes ≢ sum_here bytes → behind number bytes ≡ None
unfolding behind
behind_changed number bytes other = search (rules, arith, nat_le, cases_Bool, eqb-true, none_anyway)

pub behind_short : (number : ℕ) (bytes : List ℕ) → length bytes < span bytes → behind number bytes ≡ None
unfolding behind
behind_short number bytes short = simp (lt-leb, none_short)

-- a batch that is found, and why
pub record IsThere (number : ℕ) (bytes : List ℕ) (found : Kept × List ℕ) : Type 0 where
  pub number_is : number_in bytes ≡ number
  pub sum_is : sum_in bytes ≡ sum_here bytes
  pub fits : span bytes ≤ length bytes
  pub is : there bytes ≡ found

pub is_there : (number : ℕ) (bytes : List ℕ) (found : Kept × List ℕ) → behind number bytes ≡ Some found → IsThere
    number bytes found
is_there number bytes found is =
    search (rules, arith, cases_eq, behind_other, behind_changed, cases_lt, behind_short, behind_there)

-- bytes that begin with the same head have its numbers and its sum
pub record SameHead (p q : List ℕ) : Type 0 where
  pub number : number_in p ≡ number_in q
  pub time : time_in p ≡ time_in q
  pub len : length_in p ≡ length_in q
  pub sum : sum_in p ≡ sum_in q
  pub numbers : take 24 p ≡ take 24 q

pub sum_goes_on : (p q : List ℕ) → SameHead p q → sum_in q ≡ sum_here q → sum_in p ≡ sum_here p
sum_goes_on p q same is = same.sum ∙ is ∙ ap sum_of (sym same.numbers)

pub same_head : (p q : List ℕ) → take 32 p ≡ take 32 q → SameHead p q
same_head p q is =
    let part = λ (k : ℕ) (low : k + 8 ≤ 32). sym (take_within p k 8 32 low) ∙ ap
    (λ (l : List ℕ). take 8 (drop k l)) is ∙ take_within q k 8 32 low in
    record {
      number = ap number_of (part 0 (omega arith));
      time = ap number_of (part 8 (omega arith));
      len = ap number_of (part 16 (omega arith));
      sum = ap number_of (part 24 (omega arith));
      numbers = sym (take_within p 0 24 32 (omega arith)) ∙ ap (λ (l : List ℕ). take 24 l) is
          ∙ take_within q 0 24 32 (omega arith);
    }

-- what follows it doesn't matter
pub behind_more : (number : ℕ) (p q : List ℕ) (found : Kept × List ℕ) → behind number p ≡ Some found → behind number
    (p ++ q) ≡ Some (found.0, found.1 ++ q)
behind_more number p q found is =
    let it = is_there number p found is in
    let some = span_some p in
    let wide = is_whole (32 + length_in p) in
    let long : 32 + length_in p ≤ length p = omega (arith, it.fits, wide.no_less) in
    let same = same_head (p ++ q) p (take-append-le 32 p q (omega arith)) in
    let span_same : span (p ++ q) ≡ span p = ap (λ (n : ℕ). whole (32 + n)) same.len in
    let body_same : take (length_in (p ++ q)) (drop 32 (p ++ q)) ≡ take (length_in p) (drop 32 p) =
    ap (λ (n : ℕ). take n (drop 32 (p ++ q))) same.len ∙ ap (λ (l : List ℕ). take (length_in p) l)
    (drop-append-le 32 p q (omega arith))
    ∙ take-append-le (length_in p) (drop 32 p) q (omega (arith, length-drop 32 p)) in
    let rest_same : drop (span (p ++ q)) (p ++ q) ≡ drop (span p) p ++ q =
    ap (λ (n : ℕ). drop n (p ++ q)) span_same ∙ drop-append-le (span p) p q it.fits in
    behind_there number (p ++ q) (same.number ∙ it.number_is) (sum_goes_on (p ++ q) p same it.sum_is)
    (omega (arith, span_same, it.fits, length-append p q))
    ∙ (λ i. Some ((same.time i, records (body_same i)), rest_same i))
    ∙ ap (λ (f : Kept × List ℕ). Some (f.0, f.1 ++ q)) it.is

pub next_open : (number : ℕ) (bytes : List ℕ) → slice_index bytes 0 ≡ 1 → next number bytes ≡ behind number
    (drop sector bytes)
unfolding next
next_open number bytes open_gate = simp (eq-eqb, slice_index)

pub next_shut : (number : ℕ) (bytes : List ℕ) → slice_index bytes 0 ≢ 1 → next number bytes ≡ None
unfolding next
next_shut number bytes shut = search (rules, arith, cases_Bool, slice_index, eqb-true)

-- less than a gate and a sector behind it
pub next_short : (number : ℕ) (bytes : List ℕ) → length bytes < sector + sector → next number bytes ≡ None
next_short number bytes short = elim (cases_eq (slice_index bytes 0) 1) [
  | inl open_gate ↦
      next_open number bytes open_gate ∙ behind_short number (drop sector bytes)
      (let some = span_some (drop sector bytes) in omega (arith, some, length-drop sector bytes))
  | inr shut ↦ next_shut number bytes shut
]

pub next_is : (number : ℕ) (bytes : List ℕ) (found : Kept × List ℕ) → next number bytes ≡ Some found →
    (slice_index bytes 0 ≡ 1) × (behind number (drop sector bytes) ≡ Some found)
next_is number bytes found is = search (rules, arith, cases_eq, slice_index, next_open, next_shut)

pub staged_less : (number : ℕ) (bytes : List ℕ) (found : Kept × List ℕ) → staged number bytes ≡ Some found → length
    found.1 + (sector + sector) ≤ length bytes
staged_less number bytes found is =
    let it = is_there number (drop sector bytes) found is in
    let some = span_some (drop sector bytes) in
    let rest : drop (span (drop sector bytes)) (drop sector bytes) ≡ found.1 = ap (λ (f : Kept × List ℕ). f.1) it.is in
    omega (
      arith,
      some,
      it.fits,
      ap length rest,
      length-drop (span (drop sector bytes)) (drop sector bytes),
      length-drop sector bytes,
    )

pub next_less : (number : ℕ) (bytes : List ℕ) (found : Kept × List ℕ) → next number bytes ≡ Some found → length
    found.1 + (sector + sector) ≤ length bytes
next_less number bytes found is = staged_less number bytes found (next_is number bytes found is).1

pub next_more : (number : ℕ) (p q : List ℕ) (found : Kept × List ℕ) → next number p ≡ Some found → next number
    (p ++ q) ≡ Some (found.0, found.1 ++ q)
next_more number p q found is =
    let it = next_is number p found is in
    let less = next_less number p found is in
    next_open number (p ++ q) (get_or_append_left p q 0 0 (omega (arith, less)) ∙ it.0) ∙ ap (behind number)
    (drop-append-le sector p q (omega (arith, less)))
    ∙ behind_more number (drop sector p) q found it.1

-- one after another, by a step that takes two sectors at least
module _ (step : ℕ → List ℕ → Option (Kept × List ℕ)) (less : (number : ℕ) (bytes : List ℕ) (found : Kept × List ℕ)
    → step number bytes ≡ Some found → length found.1 + (sector + sector) ≤ length bytes) where
  cases_step : (number : ℕ) (bytes : List ℕ) → (step number bytes ≡ None) ⊎
      ((found : Kept × List ℕ) × (step number bytes ≡ Some found))
  cases_step number bytes =
      elim (step number bytes) as (λ r. (r ≡ None) ⊎ ((found : Kept × List ℕ) × (r ≡ Some found)))
      [ None ↦ inl refl | Some found ↦ inr (found, refl) ]

  none_within : (n number : ℕ) (bytes : List ℕ) → step number bytes ≡ None → one_by_one step n number bytes ≡ []
  none_within zero number bytes none = refl
  none_within (suc n) number bytes none = ap (with_more (one_by_one step n (number + 1))) none

  some_within : (n number : ℕ) (bytes : List ℕ) (found : Kept × List ℕ) → step number bytes ≡ Some found →
      one_by_one step (suc n) number bytes ≡ found.0 ∷ one_by_one step n (number + 1) found.1
  some_within n number bytes found is = ap (with_more (one_by_one step n (number + 1))) is

  none_of_nil : (n number : ℕ) → one_by_one step n number [] ≡ []
  none_of_nil n number = elim (cases_step number []) [
    | inl none ↦ none_within n number [] none
    | inr found ↦ let h = less number [] found.0 found.1 in absurd (omega (arith, h))
  ]

  -- any number that is no less than the length is enough
  enough : (m n number : ℕ) (bytes : List ℕ) → length bytes ≤ m → length bytes ≤ n → one_by_one step m number bytes ≡
      one_by_one step n number bytes
  enough m n number [] m_is n_is = none_of_nil m number ∙ sym (none_of_nil n number)
  enough zero n number (b ∷ bytes) m_is n_is = absurd (omega arith)
  enough (suc m) zero number (b ∷ bytes) m_is n_is = absurd (omega arith)
  enough (suc m) (suc n) number (b ∷ bytes) m_is n_is =
      elim (cases_step number (b ∷ bytes)) [
        | inl none ↦ none_within (suc m) number (b ∷ bytes) none ∙ sym (none_within (suc n) number (b ∷ bytes) none)
        | inr found ↦
            let h = less number (b ∷ bytes) found.0 found.1 in
            some_within m number (b ∷ bytes) found.0 found.1
            ∙ ap (λ (ks : List Kept). found.0.0 ∷ ks)
            (enough m n (number + 1) found.0.1 (omega (arith, h)) (omega (arith, h)))
            ∙ sym (some_within n number (b ∷ bytes) found.0 found.1)
      ]

  pub all_none : (number : ℕ) (bytes : List ℕ) → step number bytes ≡ None → one_by_one step (length bytes) number bytes
      ≡ []
  all_none number bytes none = none_within (length bytes) number bytes none

  pub all_some : (number : ℕ) (bytes : List ℕ) (found : Kept × List ℕ) → step number bytes ≡ Some found → one_by_one
      step (length bytes) number bytes ≡ found.0 ∷ one_by_one step (length found.1) (number + 1) found.1
  all_some number bytes found is = search (rules, arith, enough, some_within)

pub batches_none : (number : ℕ) (bytes : List ℕ) → next number bytes ≡ None → batches number bytes ≡ []
unfolding batches
batches_none number bytes none = all_none next next_less number bytes none

pub batches_some : (number : ℕ) (bytes : List ℕ) (found : Kept × List ℕ) → next number bytes ≡ Some found → batches
    number bytes ≡ found.0 ∷ batches (number + 1) found.1
unfolding batches
batches_some number bytes found is = all_some next next_less number bytes found is

-- one batch more at the end
pub lie_more : (number : ℕ) (p q : List ℕ) (all : List Kept) (kept : Kept) → Lie number p all → next
    (number + length all) q ≡ Some (kept, []) → Lie number (p ++ q) (all ++ kept ∷ [])
lie_more number p q all kept lie is more =
    let at = number + length all in
    let on : number + length all + 1 ≡ number + length (all ++ kept ∷ []) = omega
    (arith, length-append all (kept ∷ [])) in
    ap (batches number) (append_assoc p q more) ∙ lie (q ++ more)
    ∙ ap (λ (l : List Kept). all ++ l) (batches_some (number + length all) (q ++ more) (kept, more)
    (next_more (number + length all) q more (kept, []) is))
    ∙ sym (append_assoc all (kept ∷ []) (batches (number + length all + 1) more)) ∙ ap
    (λ (n : ℕ). (all ++ kept ∷ []) ++ batches n more) on

pub next_none : (number : ℕ) (bytes : List ℕ) → behind number (drop sector bytes) ≡ None → next number bytes ≡ None
next_none number bytes none = search (rules, arith, cases_eq, slice_index, next_open, next_shut)

-- the sectors of a batch alone
pub behind_front : (number : ℕ) (bytes : List ℕ) (found : Kept × List ℕ) → behind number bytes ≡ Some found → behind
    number (take (span bytes) bytes) ≡ Some (found.0, [])
behind_front number bytes found is =
    let it = is_there number bytes found is in
    let some = span_some bytes in
    let wide = is_whole (32 + length_in bytes) in
    let part = take (span bytes) bytes in
    let part_long : length (take (span bytes) bytes) ≡ span bytes = omega
    (arith, length-take (span bytes) bytes, it.fits) in
    let same = same_head part bytes (take_within bytes 0 32 (span bytes) (omega arith)) in
    let span_same : span part ≡ span bytes = ap (λ (n : ℕ). whole (32 + n)) same.len in
    let body_same : take (length_in part) (drop 32 part) ≡ take (length_in bytes) (drop 32 bytes) =
    ap (λ (n : ℕ). take n (drop 32 part)) same.len ∙ take_within bytes 32 (length_in bytes) (span bytes)
    (omega (arith, wide.no_less)) in
    let nothing : drop (span part) part ≡ [] = nil_from_length (drop (span part) part)
    (omega (arith, part_long, span_same, length-drop (span part) part)) in
    behind_there number part (same.number ∙ it.number_is) (sum_goes_on part bytes same it.sum_is)
    (omega (arith, span_same, part_long))
    ∙ (λ i. Some ((same.time i, records (body_same i)), nothing i))
    ∙ ap (λ (f : Kept × List ℕ). Some (f.0, [])) it.is

pub next_front : (number : ℕ) (bytes : List ℕ) (found : Kept × List ℕ) → next number bytes ≡ Some found → (wide : ℕ) →
    length bytes ≡ wide + length found.1
    → next number (take wide bytes) ≡ Some (found.0, [])
next_front number bytes found is wide sum =
    let open_is = next_is number bytes found is in
    let it = is_there number (drop sector bytes) found open_is.1 in
    let some = span_some (drop sector bytes) in
    let rest : drop (span (drop sector bytes)) (drop sector bytes) ≡ found.1 = ap (λ (f : Kept × List ℕ). f.1) it.is in
    let wide_is : wide ≡ sector + span (drop sector bytes) =
    omega (
      arith,
      sum,
      it.fits,
      some,
      ap length rest,
      length-drop (span (drop sector bytes)) (drop sector bytes),
      length-drop sector bytes,
    ) in
    next_open number (take wide bytes) (get_or-take wide bytes 0 0 (omega arith) ∙ open_is.0)
    ∙ ap (λ (n : ℕ). behind number (drop sector (take n bytes))) wide_is ∙ ap (behind number)
    (drop-take sector (span (drop sector bytes)) bytes)
    ∙ behind_front number (drop sector bytes) found open_is.1
