-- What is read before a checksum is what has it behind it.
use Rattle.std.proofs.Common.{◌≡◌, ℕ, true, false, List, ◌++◌, length}
use Rattle.std.proofs.Common.{Ok, refl, arith, rules}
use Rattle.std.specs.Prelude.{nat_eq, nat_lt, slice_index_or, ◌∷◌, []}
use Rattle.std.specs.Cmp.Lexicographic.{pointwise}
use Rattle.std.proofs.lemmas.Bool.{le-ltb}
use Rattle.std.proofs.lemmas.List.{take-append-drop, length-append, take-append-le, take_all, drop-append-le, drop_all}
use Rattle.upload_journal.specs.Checksums.{checksum, with_checksum, front_of, sum_of, checked}
use Rattle.upload_journal.proofs.Exact.{IsBytes, IsBytes-take, guard_ok, ended}

pub checked_found : (bytes text : List ℕ) → checked bytes ≡ Ok text
    → (bytes ≡ with_checksum text) × (IsBytes bytes → IsBytes text)
unfolding checked
checked_found bytes text e = search (rules, arith, guard_ok, ended, take-append-drop, IsBytes, IsBytes-take)

length-checksum : (text : List ℕ) → length (checksum text) ≡ 8
unfolding checksum
length-checksum text = refl

cut : (text sum : List ℕ) → length sum ≡ 8 → (nat_lt (length (text ++ sum)) 8 ≡ false)
    × (front_of (text ++ sum) ≡ text) × (sum_of (text ++ sum) ≡ sum)
cut text sum long = search (rules, arith, length-append, le-ltb, take-append-le, take_all, drop-append-le, drop_all)

same_refl : (x : List ℕ) → pointwise nat_eq x x ≡ true
same_refl x = search (rules, arith)

pub checked_again : (text : List ℕ) → checked (with_checksum text) ≡ Ok text
unfolding checked
checked_again text = search (rules, arith, cut, length-checksum, same_refl)

pub eight : (text : List ℕ) → slice_index_or (checksum text) 0 0 ∷ slice_index_or (checksum text) 1 0
    ∷ slice_index_or (checksum text) 2 0 ∷ slice_index_or (checksum text) 3 0 ∷ slice_index_or (checksum text) 4 0
    ∷ slice_index_or (checksum text) 5 0 ∷ slice_index_or (checksum text) 6 0 ∷ slice_index_or (checksum text) 7 0 ∷ []
    ≡ checksum text
unfolding checksum
eight text = refl
