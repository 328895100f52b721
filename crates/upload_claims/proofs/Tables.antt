-- Two tables with related values under the same keys.
use Rattle.std.proofs.Common.{◌≡◌, Bool, true, false, cond, T, ◌&&◌, List, [], ◌∷◌, length, suc, map as list_map}
use Rattle.std.proofs.Common.{Option, Some, None, refl, sym, ◌∙◌, ap, subst}
use Rattle.std.specs.Option.{option_map}
use Rattle.std.specs.declared.cmp.Ordering.{Ordering}
use Rattle.std.specs.Ordering.{eq_by_cmp, is_lt}
use Rattle.std.specs.Cmp.{IsTotalOrder}
use Rattle.std.specs.FinMap as map
use Rattle.std.specs.FinMap.{FinMap, IsAntisymmetric, find, is_sorted}
use Rattle.std.specs.FinMap.Entries.{below_all}
use Rattle.upload_service.proofs.Steps.{None≢Some}
use Rattle.upload_service.proofs.Keeping.Kept.{tied}
use Rattle.upload_claims.specs.Standing.{each_as}

-- both are absent, or both are there and related
abbrev pub Both : {X Y : Type 0} → (X → Y → Type 0) → Option X → Option Y → Type 0
Both Q None None = Unit {0}
Both Q None (Some y) = ⊥
Both Q (Some x) None = ⊥
Both Q (Some x) (Some y) = Q x y

abbrev pub Agree : {K X Y : Type 0} {R : K → K → Ordering} → (X → Y → Type 0) → FinMap R X → FinMap R Y → Type 0
Agree {K} Q m n = (k : K) → Both Q (map.get m k) (map.get n k)

module _ {X Y : Type 0} (Q : X → Y → Type 0) where
  both_written : (b : Bool) (x : X) (y : Y) (o : Option X) (p : Option Y) → Q x y → Both Q o p
      → Both Q (cond b (Some x) o) (cond b (Some y) p)
  both_written true x y o p q h = q
  both_written false x y o p q h = h

  both_left : (b : Bool) (o : Option X) (p : Option Y) → Both Q o p → Both Q (cond b None o) (cond b None p)
  both_left true o p h = tt
  both_left false o p h = h

  pub both_some : (o : Option X) (p : Option Y) (y : Y) → Both Q o p → p ≡ Some y → (x : X) × (o ≡ Some x) × Q x y
  both_some None None y h e = absurd (None≢Some e)
  both_some None (Some z) y h e = absurd h
  both_some (Some x) None y h e = absurd h
  both_some (Some x) (Some z) y h e = (x, refl, (let is : z ≡ y = cc in subst (Q x) is h))

  pub both_there : (o : Option X) (p : Option Y) (x : X) → Both Q o p → o ≡ Some x → (y : Y) × (p ≡ Some y) × Q x y
  both_there None p x h e = absurd (None≢Some e)
  both_there (Some w) None x h e = absurd h
  both_there (Some w) (Some y) x h e = (y, refl, (let is : w ≡ x = cc in subst (λ v. Q v y) is h))

  module _ {K : Type 0} {R : K → K → Ordering} (total : IsTotalOrder R) where
    -- what stands under a key already, and is related
    pub agree-kept : ((a b : K) → eq_by_cmp R a b ≡ true → a ≡ b) → (m : FinMap R X) (n : FinMap R Y) (k : K) (x : X)
        (y : Y) → Agree Q m n → map.get m k ≡ Some x → Q x y → Agree Q m (map.insert n k y)
    agree-kept same m n k x y h is q at =
        subst (λ p. Both Q (map.get m at) p) (sym (map.get-insert total n k y at)) (by_key (eq_by_cmp R at k) refl)
      where
        by_key : (b : Bool) → eq_by_cmp R at k ≡ b → Both Q (map.get m at) (cond b (Some y) (map.get n at))
        by_key true e = subst (λ o. Both Q o (Some y)) (sym (ap (map.get m) (same at k e) ∙ is)) q
        by_key false e = h at

    pub agree-insert : (m : FinMap R X) (n : FinMap R Y) (k : K) (x : X) (y : Y) → Agree Q m n → Q x y
        → Agree Q (map.insert m k x) (map.insert n k y)
    agree-insert m n k x y h q at =
        subst (λ o. Both Q o (map.get (map.insert n k y) at)) (sym (map.get-insert total m k x at))
        (subst (λ p. Both Q (cond (eq_by_cmp R at k) (Some x) (map.get m at)) p) (sym (map.get-insert total n k y at))
        (both_written (eq_by_cmp R at k) x y (map.get m at) (map.get n at) q (h at)))

    pub agree-remove : (m : FinMap R X) (n : FinMap R Y) (k : K) → Agree Q m n
        → Agree Q (map.remove m k) (map.remove n k)
    agree-remove m n k h at =
        subst (λ o. Both Q o (map.get (map.remove n k) at)) (sym (map.get-remove total m k at))
        (subst (λ p. Both Q (cond (eq_by_cmp R at k) None (map.get m at)) p) (sym (map.get-remove total n k at))
        (both_left (eq_by_cmp R at k) (map.get m at) (map.get n at) (h at)))

-- ---- what is written and left again

module _ {K X : Type 0} {R : K → K → Ordering} (total : IsTotalOrder R) (exact : IsAntisymmetric R) where
  gone : (b : Bool) (x : X) (o : Option X) → cond b None (cond b (Some x) o) ≡ cond b None o
  gone true x o = refl
  gone false x o = refl

  pub remove-insert : (m : FinMap R X) (k : K) (x : X) → map.remove (map.insert m k x) k ≡ map.remove m k
  remove-insert m k x =
      map.same_map total exact _ _ (λ q.
      map.get-remove total (map.insert m k x) k q
      ∙ ap (cond (eq_by_cmp R q k) None) (map.get-insert total m k x q) ∙ gone (eq_by_cmp R q k) x (map.get m q)
      ∙ sym (map.get-remove total m k q))

  pub get-insert_same : (m : FinMap R X) (k : K) (x : X) → map.get (map.insert m k x) k ≡ Some x
  get-insert_same m k x =
      map.get-insert total m k x k ∙ ap (λ b. cond b (Some x) (map.get m k)) (tied total k)

-- ---- a table with another value under each key

abbrev image : {K X Y : Type 0} → (X → Y) → List (K × X) → List (K × Y)
image f es = list_map (λ e. (e.0, f e.1)) es

length-image : {K X Y : Type 0} (f : X → Y) (es : List (K × X)) → length (image f es) ≡ length es
length-image f [] = refl
length-image f (e ∷ es) = ap suc (length-image f es)

module _ {K X Y : Type 0} (R : K → K → Ordering) (f : X → Y) where
  below-image : (k : K) (es : List (K × X)) → below_all R k (image f es) ≡ below_all R k es
  below-image k [] = refl
  below-image k (e ∷ es) = ap (λ b. is_lt (R k e.0) && b) (below-image k es)

  sorted-image : (es : List (K × X)) → is_sorted R (image f es) ≡ is_sorted R es
  sorted-image [] = refl
  sorted-image (e ∷ es) =
      ap (λ b. b && is_sorted R (image f es)) (below-image e.0 es) ∙ ap (λ b. below_all R e.0 es && b) (sorted-image es)

  find-image : (q : K) (es : List (K × X)) → find R q (image f es) ≡ option_map f (find R q es)
  find-image q [] = refl
  find-image q (e ∷ es) =
      elim (eq_by_cmp R q e.0) as (λ b. cond b (Some (f e.1)) (find R q (image f es))
      ≡ option_map f (cond b (Some e.1) (find R q es))) [ true ↦ refl | false ↦ find-image q es ]

module _ {K X Y : Type 0} {R : K → K → Ordering} (f : X → Y) where
  entries-each : (m : FinMap R X) → map.entries (each_as f m) ≡ image f (map.entries m)
  entries-each m =
      map.entries-from_sorted R (image f (map.entries m))
      (subst T (sym (sorted-image R f (map.entries m))) (map.entries_sorted m))

  pub get-each : (m : FinMap R X) (q : K) → map.get (each_as f m) q ≡ option_map f (map.get m q)
  get-each m q =
      map.get-entries (each_as f m) q ∙ ap (find R q) (entries-each m) ∙ find-image R f q (map.entries m)
      ∙ sym (ap (option_map f) (map.get-entries m q))

  pub len-each : (m : FinMap R X) → map.len (each_as f m) ≡ map.len m
  len-each m =
      map.len-entries (each_as f m) ∙ ap length (entries-each m) ∙ length-image f (map.entries m)
      ∙ sym (map.len-entries m)

module _ {X Y : Type 0} (Q : X → Y → Type 0) (f : X → Y) where
  from_both : (is : (x : X) (y : Y) → Q x y → f x ≡ y) (o : Option X) (p : Option Y) → Both Q o p → option_map f o ≡ p
  from_both is None None h = refl
  from_both is None (Some y) h = absurd h
  from_both is (Some x) None h = absurd h
  from_both is (Some x) (Some y) h = ap Some (is x y h)

  to_both : (o : Option X) → ((x : X) → o ≡ Some x → Q x (f x)) → Both Q o (option_map f o)
  to_both None h = tt
  to_both (Some x) h = h x refl

  pub each_from_agree : {K : Type 0} {R : K → K → Ordering} → IsTotalOrder R → IsAntisymmetric R
      → ((x : X) (y : Y) → Q x y → f x ≡ y) → (m : FinMap R X) (n : FinMap R Y) → Agree Q m n → each_as f m ≡ n
  each_from_agree total exact is m n h =
      map.same_map total exact (each_as f m) n (λ q. get-each f m q ∙ from_both is (map.get m q) (map.get n q) (h q))

  pub agree_from_each : {K : Type 0} {R : K → K → Ordering} (m : FinMap R X) (n : FinMap R Y) → each_as f m ≡ n
      → ((k : K) (x : X) → map.get m k ≡ Some x → Q x (f x)) → Agree Q m n
  agree_from_each m n e h k =
      subst (Both Q (map.get m k)) (sym (get-each f m k) ∙ ap (λ t. map.get t k) e) (to_both (map.get m k) (h k))
