-- Tables at the key that was written, and at the others.
use Rattle.std.proofs.Common.{◌≡◌, ◌≢◌, ℕ, arith, List, ◌∷◌, true, false, Some, None, refl, sym, ◌∙◌, ap, ◌⊎◌, inl, inr}
use Rattle.std.proofs.Common.{cond, rules}
use Rattle.std.specs.Ordering.{nat_cmp, eq_by_cmp, is_eq}
use Rattle.std.specs.Cmp.{Equal-is, tied_itself, IsTotalOrder}
use Rattle.std.specs.Cmp.Lexicographic.{slice_cmp, nat_list_cmp_total}
use Rattle.std.proofs.lemmas.Bool.{true≢false, false_from_ne_true}
use Rattle.std.specs.FinMap as map
use Rattle.std.specs.FinMap.{FinMap, IsAntisymmetric, slice_cmp-IsAntisymmetric, nat_cmp-IsAntisymmetric}
use Rattle.std.specs.FinSet as set
use Rattle.std.proofs.lemmas.Map.Lookups.{exact_pairs}
use Rattle.std.specs.FinSet.{FinSet}
use Rattle.std.proofs.lemmas.Cmp.{on_total, then_total}
use Rattle.std.specs.Prelude.{◌||◌}
use Rattle.upload_names.specs.Digest.{Digest, digest_key, digest_cmp, rank}
use Rattle.upload_names.specs.declared.digest.Algorithm.{Algorithm}
use Rattle.upload_service.specs.Machine.{same, same_digest, Table, pair_cmp}

pub same_itself : (x : List ℕ) → same x x ≡ true
same_itself x = ap is_eq (tied_itself nat_list_cmp_total x)

pub eq_from_same : (x y : List ℕ) → same x y ≡ true → x ≡ y
eq_from_same x y e = slice_cmp-IsAntisymmetric nat_cmp-IsAntisymmetric x y ((Equal-is (slice_cmp nat_cmp x y)).0 e)

pub same_from_eq : (x y : List ℕ) → x ≡ y → same x y ≡ true
same_from_eq x y e = ap (same x) (sym e) ∙ same_itself x

pub ne_from_same : (x y : List ℕ) → same x y ≡ false → x ≢ y
ne_from_same x y e p = true≢false (sym (same_from_eq x y p) ∙ e)

pub same_from_ne : (x y : List ℕ) → x ≢ y → same x y ≡ false
same_from_ne x y n = false_from_ne_true (same x y) (λ e. n (eq_from_same x y e))

-- two keys are one, or they differ
pub one_or_two : (x y : List ℕ) → (x ≡ y) ⊎ (x ≢ y)
one_or_two x y =
    elim (same x y) as (λ b. same x y ≡ b → (x ≡ y) ⊎ (x ≢ y)) [
      | true ↦ λ e. inl (eq_from_same x y e)
      | false ↦ λ e. inr (ne_from_same x y e)
    ] refl

module _ {X : Type 0} where
  pub get-insert_same : (m : Table X) (k : List ℕ) (v : X) → map.get (map.insert m k v) k ≡ Some v
  get-insert_same m k v =
      map.get-insert nat_list_cmp_total m k v k ∙ ap (λ b. cond b (Some v) (map.get m k)) (same_itself k)

  pub get-insert_other : (m : Table X) (k : List ℕ) (v : X) (q : List ℕ) → q ≢ k
      → map.get (map.insert m k v) q ≡ map.get m q
  get-insert_other m k v q n =
      map.get-insert nat_list_cmp_total m k v q ∙ ap (λ b. cond b (Some v) (map.get m q)) (same_from_ne q k n)

  pub get-remove_same : (m : Table X) (k : List ℕ) → map.get (map.remove m k) k ≡ None
  get-remove_same m k = map.get-remove nat_list_cmp_total m k k ∙ ap (λ b. cond b None (map.get m k)) (same_itself k)

  pub get-remove_other : (m : Table X) (k q : List ℕ) → q ≢ k → map.get (map.remove m k) q ≡ map.get m q
  get-remove_other m k q n =
      map.get-remove nat_list_cmp_total m k q ∙ ap (λ b. cond b None (map.get m q)) (same_from_ne q k n)

same_rank : (a b : Algorithm) → rank a ≡ rank b → a ≡ b
same_rank a b h = search (rules, arith)

pub digests_total : IsTotalOrder digest_cmp
digests_total = on_total digest_key nat_list_cmp_total

pub digests_exact : IsAntisymmetric digest_cmp
digests_exact a b e =
    let keys : rank a.algorithm ∷ a.bytes ≡ rank b.algorithm ∷ b.bytes =
    slice_cmp-IsAntisymmetric nat_cmp-IsAntisymmetric (digest_key a) (digest_key b) e in
    let ranks : rank a.algorithm ≡ rank b.algorithm = cc in
    let bytes : a.bytes ≡ b.bytes = cc in
    let made : a.algorithm ≡ b.algorithm = same_rank a.algorithm b.algorithm ranks in
    λ i. record { algorithm = made i; bytes = bytes i }

pub same_digest_itself : (x : Digest) → same_digest x x ≡ true
same_digest_itself x = ap is_eq (tied_itself digests_total x)

pub eq_from_same_digest : (x y : Digest) → same_digest x y ≡ true → x ≡ y
eq_from_same_digest x y e = digests_exact x y ((Equal-is (digest_cmp x y)).0 e)

pub same_digest_from_eq : (x y : Digest) → x ≡ y → same_digest x y ≡ true
same_digest_from_eq x y e = ap (same_digest x) (sym e) ∙ same_digest_itself x

pub same_digest_from_ne : (x y : Digest) → x ≢ y → same_digest x y ≡ false
same_digest_from_ne x y n = false_from_ne_true (same_digest x y) (λ e. n (eq_from_same_digest x y e))

pub one_or_two_digests : (x y : Digest) → (x ≡ y) ⊎ (x ≢ y)
one_or_two_digests x y = grind (arith, eq_from_same_digest x y, same_digest_itself x)

pub blob-insert : {X : Type 0} (m : FinMap digest_cmp X) (k : Digest) (v : X) (q : Digest)
    → map.get (map.insert m k v) q ≡ cond (same_digest q k) (Some v) (map.get m q)
blob-insert m k v q = map.get-insert digests_total m k v q

pub blob-insert_same : {X : Type 0} (m : FinMap digest_cmp X) (k : Digest) (v : X)
    → map.get (map.insert m k v) k ≡ Some v
blob-insert_same m k v = blob-insert m k v k ∙ ap (λ b. cond b (Some v) (map.get m k)) (same_digest_itself k)

pub blob-insert_other : {X : Type 0} (m : FinMap digest_cmp X) (k : Digest) (v : X) (q : Digest) → q ≢ k
    → map.get (map.insert m k v) q ≡ map.get m q
blob-insert_other m k v q n = blob-insert m k v q ∙ ap (λ b. cond b (Some v) (map.get m q)) (same_digest_from_ne q k n)

pub pairs_total : IsTotalOrder pair_cmp
pairs_total =
    then_total (on_total (λ (p : List ℕ × Digest). p.0) nat_list_cmp_total)
    (on_total (λ (p : List ℕ × Digest). p.1) digests_total)

pub contains-insert_same : (m : FinSet pair_cmp) (p : List ℕ × Digest) → set.contains (set.insert m p) p ≡ true
contains-insert_same m p =
    set.contains-insert pairs_total m p p ∙ ap (λ b. b || set.contains m p) (ap is_eq (tied_itself pairs_total p))

pub contains-insert : (m : FinSet pair_cmp) (p q : List ℕ × Digest)
    → set.contains (set.insert m p) q ≡ (eq_by_cmp pair_cmp q p || set.contains m q)
contains-insert m p q = set.contains-insert pairs_total m p q

pub get-insert : {X : Type 0} (m : Table X) (k : List ℕ) (v : X) (q : List ℕ)
    → map.get (map.insert m k v) q ≡ cond (same q k) (Some v) (map.get m q)
get-insert m k v q = map.get-insert nat_list_cmp_total m k v q

pub pairs_exact : IsAntisymmetric pair_cmp
pairs_exact =
    let exact : IsAntisymmetric (slice_cmp nat_cmp) = slice_cmp-IsAntisymmetric nat_cmp-IsAntisymmetric in
    exact_pairs (slice_cmp nat_cmp) digest_cmp exact digests_exact

pub pair_from_same : (p q : List ℕ × Digest) → eq_by_cmp pair_cmp p q ≡ true → p ≡ q
pair_from_same p q e = pairs_exact p q ((Equal-is (pair_cmp p q)).0 e)
