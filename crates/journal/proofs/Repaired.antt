-- The end of a file, as a crash left it and as it is repaired.
use Rattle.std.proofs.Common.{◌≡◌, ◌≢◌, inl, inr, ℕ, ◌+◌, ◌<◌, ◌≤◌, List, [], ◌++◌, length, take, drop, rules}
use Rattle.std.proofs.Common.{slice_index, None, sym, ◌∙◌, ap, subst, arith, length-drop, length-take}
use Rattle.std.proofs.lemmas.Bool.{cases_eq, cases_lt}
use Rattle.std.proofs.lemmas.List.{append-nil, drop-drop}
use Rattle.sqlite_disk.specs.Disk.{Torn, Only, Follows}
use Rattle.journal.specs.Format.{Kept, sector, next, behind, batches, stored, Rests}
use Rattle.journal.specs.Reads.{EndsAt, Repairs}
use Rattle.journal.proofs.Places.{same_front, same_back, take_within}
use Rattle.journal.proofs.Listing.{next_open, next_shut, next_short, batches_none}
use Rattle.journal.proofs.Commit.{behind_line, first_at_end, rests_of}

-- less than three sectors have no batch
pub stored_small : (file : List ℕ) → length file ≤ sector + sector → stored file ≡ []
stored_small file small =
    batches_none 0 (drop sector file) (next_short 0 (drop sector file) (omega (arith, length-drop sector file)))

-- a first line that is written into a small file
pub stored_begun : (old new : List ℕ) → length old ≤ sector + sector → Torn 0 sector old new → stored new ≡ stored old
stored_begun old new small torn = stored_small new (omega (arith, torn.no_longer)) ∙ sym (stored_small old small)

pub begun_follows : (file : List ℕ) (old new : List ℕ → Type 0) → length file ≤ sector + sector → Only file old →
    Follows (Torn 0 sector) old new
    → (c : List ℕ) → new c → stored c ≡ stored file
begun_follows file old new small only follows c left = search (rules, arith, stored_begun)

module _ (file : List ℕ) (end count : ℕ) (begins : sector ≤ end) (ends : EndsAt file end count) (c : List ℕ) where
  line_long : length (take sector file) ≡ sector
  line_long = omega (arith, length-take sector file, ends.within)

  same_stored : take end c ≡ take end file → next count (drop end c) ≡ None → stored c ≡ stored file
  same_stored front none =
      let all = stored file in
      let on : count ≡ 0 + length (stored file) = omega (arith, ends.count_is) in
      let none_on : next (0 + length (stored file)) (drop end c) ≡ None = subst
      (λ (n : ℕ). next n (drop end c) ≡ None) on none in
      ap (batches 0) (behind_line (take sector file) ends.body [] c end line_long (front ∙ ends.front)) ∙ ends.lie
      (drop end c)
      ∙ ap (λ (l : List Kept). stored file ++ l) (batches_none (0 + length (stored file)) (drop end c) none_on) ∙
      append-nil (stored file)

  front_is : Repairs end file c → take end c ≡ take end file
  front_is (inl same) = ap (λ (l : List ℕ). take end l) same
  front_is (inr torn) = same_front end sector file c torn.1 end (omega arith) ends.within

  pub line_repaired : Repairs end file c → take sector c ≡ take sector file
  line_repaired repairs =
      cc (take_within c 0 sector end begins, front_is repairs, take_within file 0 sector end begins)

  none_short : length file < end + sector → Torn end sector file c → next count (drop end c) ≡ None
  none_short short torn = next_short count (drop end c) (omega (arith, length-drop end c, torn.no_longer))

  none_still : Repairs end file c → next count (drop end c) ≡ None
  none_still (inl same) = ap (λ (l : List ℕ). next count (drop end l)) same ∙ ends.none
  none_still (inr torn) = elim (cases_lt (length file) (end + sector)) [
    | inl short ↦ none_short short torn.1
    | inr there ↦ elim torn.0 [
      | inl missing ↦ none_short missing torn.1
      | inr was_open ↦ elim (cases_eq (slice_index c end) 1) [
        | inl still ↦
            next_open count (drop end c) (first_at_end c end ∙ still)
            ∙ ap (behind count) (drop-drop sector end c ∙ same_back end sector file c torn.1 there ∙ sym
            (drop-drop sector end file))
            ∙ sym (next_open count (drop end file) (first_at_end file end ∙ was_open)) ∙ ends.none
        | inr shut ↦ next_shut count (drop end c) (λ is. shut (sym (first_at_end c end) ∙ is))
      ]
    ]
  ]

  pub same_repaired : Repairs end file c → stored c ≡ stored file
  same_repaired repairs = same_stored (front_is repairs) (none_still repairs)

  pub rests_repaired : (line : List ℕ) (len : ℕ) → take sector file ≡ line → Repairs end file c → end < len → len ≤
      length c → slice_index c end ≢ 1
      → Rests line (stored file) end len c
  rests_repaired line len line_is repairs within there shut = rests_of line (stored file) end len c (record {
    body = ends.body;
    front = front_is repairs ∙ ends.front ∙ ap (λ (l : List ℕ). l ++ ends.body) line_is;
    line_long = ap length (sym line_is) ∙ line_long;
    lie = ends.lie;
  }) within there shut
