-- A repository that has a blob no more: which pairs and which blobs are left.
use Rattle.std.proofs.Common.{arith, rules}
use Rattle.std.proofs.Common.{◌≡◌, ◌≢◌, ℕ, ◌-◌, List, Bool, true, false, Some, None, refl, sym, ◌∙◌, ap, cond}
use Rattle.std.specs.Prelude.{◌&&◌, ◌==◌, not, IsSome}
use Rattle.std.specs.Ordering.{eq_by_cmp}
use Rattle.std.specs.FinMap as map
use Rattle.std.specs.FinMap.{FinMap}
use Rattle.std.specs.FinSet as set
use Rattle.std.specs.FinSet.{FinSet}
use Rattle.std.proofs.lemmas.Bool.{true≢false, false_from_ne_true, and_parts, eqb-true}
use Rattle.std.proofs.Math.Bool.{and-true, and-false}
use Rattle.upload_names.specs.Digest.{Digest, digest_cmp, HasDigest}
use Rattle.upload_service.specs.Machine.{State, IsLawful, same_digest, pair_cmp, holds}
use Rattle.upload_service.specs.Forgotten.{pairs_under, is_only, blobs_left, forgotten}
use Rattle.upload_service.proofs.Keeping.Tables.{one_or_two, same_from_eq, same_from_ne, same_digest_from_eq}
use Rattle.upload_service.proofs.Keeping.Tables.{eq_from_same_digest, digests_total, pairs_total, pairs_exact}
use Rattle.upload_service.proofs.Keeping.Tables.{pair_from_same}
use Rattle.upload_service.proofs.Keeping.Stocked.{names_first}
use Rattle.upload_service.proofs.Steps.{by_test, None≢Some}

-- the pairs of a digest
pub contains-under : (pairs : FinSet pair_cmp) (digest : Digest) (n : List ℕ) (d : Digest)
    → set.contains (pairs_under pairs digest) (n, d) ≡ (set.contains pairs (n, d) && same_digest d digest)
contains-under pairs digest n d =
    set.contains-retain pairs (λ p. same_digest p.1 digest) (n, d)
    (λ x t. ap (λ p. same_digest p.1 digest) (sym (pairs_exact (n, d) x t)))

pub contains-remove : (m : FinSet pair_cmp) (p q : List ℕ × Digest)
    → set.contains (set.remove m p) q ≡ (not (eq_by_cmp pair_cmp q p) && set.contains m q)
contains-remove m p q = set.contains-remove pairs_total m p q

-- two pairs are more than one
pub not_one : (s : FinSet pair_cmp) (p q : List ℕ × Digest) → set.contains s p ≡ true → set.contains s q ≡ true
    → eq_by_cmp pair_cmp q p ≡ false → set.len s ≢ 1
not_one s p q has_p has_q apart one =
    let none : set.len (set.remove s p) ≡ 0 =
    set.len-remove pairs_total s p ∙ (λ i. cond (has_p i) (one i - 1) (one i)) in
    true≢false
    (sym has_q
    ∙ sym (ap (λ b. not b && set.contains s q) apart)
    ∙ sym (contains-remove s p q)
    ∙ ap (λ (m : FinSet pair_cmp). set.contains m q) (set.empty_of_len (set.remove s p) none)
    ∙ set.contains-empty pair_cmp q)

-- who has a blob beside another isn't the only one
pub not_only : (pairs : FinSet pair_cmp) (name other : List ℕ) (digest : Digest)
    → set.contains pairs (name, digest) ≡ true → set.contains pairs (other, digest) ≡ true → other ≢ name
    → (set.len (pairs_under pairs digest) == 1) ≡ false
not_only pairs name other digest has also ne =
    let itself : same_digest digest digest ≡ true = same_digest_from_eq digest digest refl in
    false_from_ne_true _ (λ one. not_one (pairs_under pairs digest) (name, digest) (other, digest)
    (contains-under pairs digest name digest ∙ (λ i. has i && itself i))
    (contains-under pairs digest other digest ∙ (λ i. also i && itself i))
    (names_first other name digest digest ∙ ap (λ b. b && same_digest digest digest) (same_from_ne other name ne))
    (eqb-true _ _ one))

pub only_holder : (pairs : FinSet pair_cmp) (name other : List ℕ) (digest : Digest)
    → is_only pairs name digest ≡ true → set.contains pairs (other, digest) ≡ true → other ≡ name
only_holder pairs name other digest only has =
    grind (
      arith,
      and_parts (set.contains pairs (name, digest)) _ only,
      one_or_two other name,
      not_only pairs name other digest,
    )

-- a pair that isn't there
pub remove_absent : (pairs : FinSet pair_cmp) (p : List ℕ × Digest) → set.contains pairs p ≡ false
    → set.remove pairs p ≡ pairs
remove_absent pairs p h =
    set.same_set pairs_total pairs_exact _ _
    (λ q. contains-remove pairs p q ∙ either q (eq_by_cmp pair_cmp q p) refl)
  where
    either : (q : List ℕ × Digest) (b : Bool) → eq_by_cmp pair_cmp q p ≡ b
        → (not b && set.contains pairs q) ≡ set.contains pairs q
    either q true e = sym (ap (λ r. set.contains pairs r) (pair_from_same q p e) ∙ h)
    either q false e = refl

pub absent_left : (blobs : FinMap digest_cmp (List ℕ)) (pairs : FinSet pair_cmp) (name : List ℕ) (digest : Digest)
    → set.contains pairs (name, digest) ≡ false → blobs_left blobs pairs name digest ≡ blobs
absent_left blobs pairs name digest h = cc

-- the blobs without one
pub get-without : (blobs : FinMap digest_cmp (List ℕ)) (digest : Digest) (gone : Bool) (q : Digest)
    → map.get (cond gone (map.remove blobs digest) blobs) q ≡ cond (same_digest q digest && gone) None (map.get blobs q)
get-without blobs digest true q =
    map.get-remove digests_total blobs digest q
    ∙ sym (ap (λ b. cond b None (map.get blobs q)) (and-true (same_digest q digest)))
get-without blobs digest false q = sym (ap (λ b. cond b None (map.get blobs q)) (and-false (same_digest q digest)))

-- what is left is lawful too
own_digest_left : (s : State) (name : List ℕ) (digest : Digest) → IsLawful s → (d : Digest) (blob : List ℕ)
    → map.get (blobs_left s.blobs s.pairs name digest) d ≡ Some blob → HasDigest blob d
own_digest_left s name digest h d blob e = search (rules, arith, by_test, None≢Some, get-without)

stored_left : (s : State) (name : List ℕ) (digest : Digest) → IsLawful s → (n : List ℕ) (d : Digest)
    → holds (forgotten s name digest) n d ≡ true → IsSome (map.get (blobs_left s.blobs s.pairs name digest) d)
stored_left s name digest h n d has =
    search (
      rules,
      arith,
      contains-remove,
      names_first,
      and_parts,
      get-without,
      by_test,
      only_holder,
      eq_from_same_digest,
      true≢false,
      same_from_eq,
    )

pub lawful_forgotten : (s : State) (name : List ℕ) (digest : Digest) → IsLawful s → IsLawful (forgotten s name digest)
lawful_forgotten s name digest h = search (rules, arith, own_digest_left, stored_left)
