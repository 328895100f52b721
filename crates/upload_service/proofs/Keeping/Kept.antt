-- What changes of a map's entries do to the table that they stand for.
use Rattle.std.proofs.Common.{◌≡◌, suc, ◌+◌, List, [], ◌∷◌, length, Bool, true, false, Option, Some, None, refl, sym}
use Rattle.std.proofs.Common.{◌∙◌, ap, cond, arith, ◌⊎◌, rules}
use Rattle.std.specs.Prelude.{is_some}
use Rattle.std.specs.Option.{option_map}
use Rattle.std.specs.Map.{lookup, keys_of}
use Rattle.std.specs.List.{IsDistinct}
use Rattle.std.specs.List.Sorted.{IsStrictlySortedBy}
use Rattle.std.specs.declared.cmp.Ordering.{Ordering}
use Rattle.std.specs.Ordering.{eq_by_cmp, is_eq}
use Rattle.std.specs.Cmp.{IsTotalOrder, eq_by_cmp_equiv, tied_itself}
use Rattle.std.specs.FinMap as map
use Rattle.std.specs.FinMap.{IsAntisymmetric}
use Rattle.std.proofs.lemmas.Map.{lookup-none}
use Rattle.std.proofs.lemmas.Map.Entries.{none_past_head}
use Rattle.std.proofs.lemmas.Map.Keys.{IsDistinct-from_sorted, IsDistinct-tail}
use Rattle.upload_service.specs.Kept.Entries.{kept_as}

module _ {K : Type 0} {R : K → K → Ordering} (total : IsTotalOrder R) where
  pub tied : (x : K) → eq_by_cmp R x x ≡ true
  tied x = ap is_eq (tied_itself total x)

  pub tied_flips : (x y : K) → eq_by_cmp R x y ≡ eq_by_cmp R y x
  tied_flips x y = (eq_by_cmp_equiv total).symm x y

  pub tied_from_eq : (x y : K) → x ≡ y → eq_by_cmp R x y ≡ true
  tied_from_eq x y e = ap (eq_by_cmp R x) (sym e) ∙ tied x

  -- no later key is the first
  pub first_only : {V : Type 0} (e : K × V) (es : List (K × V)) → IsDistinct (eq_by_cmp R) (keys_of (e ∷ es))
      → lookup (eq_by_cmp R e.0) es ≡ None
  first_only e es h = lookup-none (eq_by_cmp R e.0) es (none_past_head (eq_by_cmp_equiv total) e.0 e es h (tied e.0))

module _ {K : Type 0} {R : K → K → Ordering} (total : IsTotalOrder R) (exact : IsAntisymmetric R) where
  -- two keys are one, or they are apart
  pub one_or_apart : (x y : K) → (x ≡ y) ⊎ (eq_by_cmp R x y ≡ false)
  one_or_apart x y = search (rules, arith)

module _ {K V X : Type 0} {R : K → K → Ordering} (total : IsTotalOrder R) (exact : IsAntisymmetric R) (f : V → X) where
  through : (b : Bool) (v : V) (o : Option V) → option_map f (cond b (Some v) o) ≡ cond b (Some (f v)) (option_map f o)
  through true v o = refl
  through false v o = refl

  through_none : (b : Bool) (o : Option V) → option_map f (cond b None o) ≡ cond b None (option_map f o)
  through_none true o = refl
  through_none false o = refl

  pub get-kept : (es : List (K × V)) (q : K) → map.get (kept_as R f es) q ≡ option_map f (lookup (eq_by_cmp R q) es)
  get-kept [] q = map.get-empty R q
  get-kept (e ∷ es) q =
      map.get-insert total (kept_as R f es) e.0 (f e.1) q
      ∙ ap (cond (eq_by_cmp R q e.0) (Some (f e.1))) (get-kept es q)
      ∙ sym (through (eq_by_cmp R q e.0) e.1 (lookup (eq_by_cmp R q) es))

  pub kept-same : (es fs : List (K × V))
      → ((q : K) → option_map f (lookup (eq_by_cmp R q) fs) ≡ option_map f (lookup (eq_by_cmp R q) es))
      → kept_as R f fs ≡ kept_as R f es
  kept-same es fs h =
      map.same_map total exact (kept_as R f fs) (kept_as R f es)
      (λ q. get-kept fs q ∙ h q ∙ sym (get-kept es q))

  pub kept-insert : (es fs : List (K × V)) (k : K) (v : V)
      → ((q : K) → lookup (eq_by_cmp R q) fs ≡ cond (eq_by_cmp R k q) (Some v) (lookup (eq_by_cmp R q) es))
      → kept_as R f fs ≡ map.insert (kept_as R f es) k (f v)
  kept-insert es fs k v h =
      map.same_map total exact (kept_as R f fs) (map.insert (kept_as R f es) k (f v))
      (λ q. get-kept fs q ∙ ap (option_map f) (h q) ∙ through (eq_by_cmp R k q) v (lookup (eq_by_cmp R q) es)
      ∙ ap (λ b. cond b (Some (f v)) (option_map f (lookup (eq_by_cmp R q) es))) (tied_flips total k q)
      ∙ sym
      (map.get-insert total (kept_as R f es) k (f v) q ∙ ap (cond (eq_by_cmp R q k) (Some (f v))) (get-kept es q)))

  pub kept-remove : (es fs : List (K × V)) (k : K)
      → ((q : K) → lookup (eq_by_cmp R q) fs ≡ cond (eq_by_cmp R k q) None (lookup (eq_by_cmp R q) es))
      → kept_as R f fs ≡ map.remove (kept_as R f es) k
  kept-remove es fs k h =
      map.same_map total exact (kept_as R f fs) (map.remove (kept_as R f es) k)
      (λ q. get-kept fs q ∙ ap (option_map f) (h q) ∙ through_none (eq_by_cmp R k q) (lookup (eq_by_cmp R q) es)
      ∙ ap (λ b. cond b None (option_map f (lookup (eq_by_cmp R q) es))) (tied_flips total k q)
      ∙ sym (map.get-remove total (kept_as R f es) k q ∙ ap (cond (eq_by_cmp R q k) None) (get-kept es q)))

  -- a value that is put back as it was
  pub kept-written : (es fs : List (K × V)) (k : K) (v w : V) → Some v ≡ lookup (eq_by_cmp R k) es
      → ((q : K) → lookup (eq_by_cmp R q) fs ≡ cond (eq_by_cmp R k q) (Some w) (lookup (eq_by_cmp R q) es)) → f w ≡ f v
      → kept_as R f fs ≡ kept_as R f es
  kept-written es fs k v w has h is = search (rules, arith, kept-same, one_or_apart, tied_from_eq)

  pub len_distinct : (es : List (K × V)) → IsDistinct (eq_by_cmp R) (keys_of es) → map.len (kept_as R f es) ≡ length es
  len_distinct [] h = map.len-empty R X
  len_distinct (e ∷ es) h =
      map.len-insert total (kept_as R f es) e.0 (f e.1)
      ∙ ap (λ o. cond (is_some o) (map.len (kept_as R f es)) (map.len (kept_as R f es) + 1))
      (get-kept es e.0 ∙ ap (option_map f) (first_only total e es h))
      ∙ ap (λ n. n + 1) (len_distinct es (IsDistinct-tail (eq_by_cmp R) e.0 (keys_of es) h))
      ∙ (let e : length es + 1 ≡ suc (length es) = omega arith in e)

  pub len-kept : (es : List (K × V)) → IsStrictlySortedBy R (keys_of es) → map.len (kept_as R f es) ≡ length es
  len-kept es h = len_distinct es (IsDistinct-from_sorted R (keys_of es) h)
