-- The repositories of a blob.
use Rattle.std.proofs.Common.{◌≡◌, ℕ, List, [], ◌∷◌, Bool, true, false, Option, Some, None, refl, sym, ◌∙◌, ap, cond}
use Rattle.std.proofs.Common.{inl, inr, Bor, map as list_map, length, suc, arith, ◌≢◌, rules}
use Rattle.std.specs.Prelude.{◌||◌, ◌&&◌, not, ◌↔◌, IsTrue, is_some, IfSome, IfNone, OnOk}
use Rattle.std.specs.declared.result.Result.{Result}
use Rattle.std.specs.declared.result.Result.TheVariants.{Ok, Err}
use Rattle.std.specs.Option.{option_copied}
use Rattle.std.specs.declared.cmp.Ordering.{Ordering}
use Rattle.std.specs.Ordering.{nat_cmp, eq_by_cmp}
use Rattle.std.specs.List.{list_any, list_all}
use Rattle.std.specs.Arc.{arc_value}
use Rattle.std.specs.Map.{lookup, keys_of}
use Rattle.std.specs.declared.sync.Arc.{Arc}
use Rattle.upload_service.specs.Kept.Holders.{AreShared, is_alone}
use Rattle.std.specs.Cmp.Lexicographic.{slice_cmp, nat_list_cmp_total}
use Rattle.std.proofs.lemmas.Bool.{true≢false, false_from_ne_true, and_parts}
use Rattle.std.proofs.Math.Bool.{and-false, or-true, or-false}
use Rattle.upload_service.specs.Machine.{same}
use Rattle.upload_service.proofs.Keeping.Kept.{tied_flips}
use Rattle.upload_service.proofs.Keeping.Tables.{same_from_eq, same_from_ne, one_or_two, same_itself, eq_from_same}

-- a test for equality is the look-up among one
pub only_one : (b : Bool) (only name : List ℕ) → IsTrue b ↔ (only ≡ name) → b ≡ list_any (same name) (only ∷ [])
only_one b only name h = search (rules, arith, one_or_two, same_from_eq, false_from_ne_true, same_from_ne)

-- one more that was among them
pub known_one : (names : List (List ℕ)) (name : List ℕ) → list_any (same name) names ≡ true → (q : List ℕ)
    → list_any (same q) names ≡ (same q name || list_any (same q) names)
known_one names name h q = search (rules, arith, one_or_two, same_from_eq, same_from_ne)

-- what an insertion leaves in a set of names
pub one_more : (name q : List ℕ) (b : Bool) → cond (same name q) true b ≡ (same q name || b)
one_more name q b = ap (λ t. cond t true b) (tied_flips nat_list_cmp_total name q) ∙ as_or (same q name) b
  where
    as_or : (t b : Bool) → cond t true b ≡ (t || b)
    as_or true b = refl
    as_or false b = refl

-- what a removal leaves in a set of names
pub one_less : (name q : List ℕ) (b : Bool) → cond (same name q) false b ≡ (not (same q name) && b)
one_less name q b = ap (λ t. cond t false b) (tied_flips nat_list_cmp_total name q) ∙ as_and (same q name) b
  where
    as_and : (t b : Bool) → cond t false b ≡ (not t && b)
    as_and true b = refl
    as_and false b = refl

-- a name that isn't among these is no loss to them
pub absent_one : (names : List (List ℕ)) (name : List ℕ) → list_any (same name) names ≡ false → (q : List ℕ)
    → list_any (same q) names ≡ (not (same q name) && list_any (same q) names)
absent_one names name h q = search (rules, arith, one_or_two, same_from_eq, same_from_ne)

-- one name is alone if it is this one
pub alone_one : (name only : List ℕ) → list_any (same name) (only ∷ []) ≡ is_alone name (only ∷ [])
alone_one name only = search (rules, arith)

pub alone_absent : (names : List (List ℕ)) (name : List ℕ) → list_any (same name) names ≡ false
    → is_alone name names ≡ false
alone_absent names name h = ap (λ b. b && list_all (same name) names) h

-- each of the names is a name that is alone
pub alone_all : (name : List ℕ) (names : List (List ℕ)) → list_all (same name) names ≡ true → (q : List ℕ)
    → list_any (same q) names ≡ true → q ≡ name
alone_all name [] all q has = absurd (true≢false (sym has))
alone_all name (x ∷ names) all q has =
    elim (one_or_two q x) [
      | inl e ↦ e ∙ sym (eq_from_same name x (and_parts (same name x) _ all).0)
      | inr ne ↦ alone_all name names (and_parts (same name x) _ all).1 q
          (sym (ap (λ b. b || list_any (same q) names) (same_from_ne q x ne)) ∙ has)
    ]

-- and if each of them is one name, all are
all_alone : (name : List ℕ) (names : List (List ℕ))
    → ((q : List ℕ) → list_any (same q) names ≡ true → same name q ≡ true) → list_all (same name) names ≡ true
all_alone name [] h = refl
all_alone name (x ∷ names) h = search (rules, arith, same_itself, or-true, all_alone name names)

-- another name than one that is alone
pub other_of : (name : List ℕ) (names : List (List ℕ)) → list_all (same name) names ≡ false
    → (q : List ℕ) × (list_any (same q) names ≡ true) × (same q name ≡ false)
other_of name [] e = absurd (true≢false e)
other_of name (x ∷ names) e =
    grind (arith, one_or_two x name, same_from_eq name x, same_itself x, same_from_ne x name, other_of name names)

-- a name that was among these is alone if none is left without it
module _ (name : List ℕ) (old : List (List ℕ)) (has : list_any (same name) old ≡ true) where
  pub alone_none_left : ((q : List ℕ) → false ≡ (not (same q name) && list_any (same q) old)) → is_alone name old ≡ true
  alone_none_left h =
      λ i. has i && all_alone name old (λ q is. tied_flips nat_list_cmp_total name q
      ∙ only (same q name) (h q ∙ ap (λ b. not (same q name) && b) is)) i
    where
      only : (b : Bool) → false ≡ (not b && true) → b ≡ true
      only true e = refl
      only false e = e

  pub alone_one_left : (q : List ℕ) → (not (same q name) && list_any (same q) old) ≡ true → is_alone name old ≡ false
  alone_one_left q h =
      search (rules, arith, false_from_ne_true, alone_all, and_parts, true≢false, same_from_eq, and-false)

-- a name that is put under itself
pub shared_more : {Z : Type 0} (es es' : List (List ℕ × Arc (List ℕ) Z)) (key : List ℕ) (item : Arc (List ℕ) Z)
    → AreShared es → arc_value item ≡ key
    → ((q : List ℕ) → lookup (same q) es' ≡ cond (same key q) (Some item) (lookup (same q) es)) → AreShared es'
shared_more es es' key item own is h = λ name shared at. elim (one_or_two key name) [
  | inl e ↦
      let both : Some item ≡ Some shared =
      sym (h name ∙ ap (λ b. cond b (Some item) (lookup (same name) es)) (same_from_eq key name e)) ∙ at in
      let one : item ≡ shared = cc in
      sym (ap arc_value one) ∙ is ∙ e
  | inr ne ↦ own name shared
      (sym (h name ∙ ap (λ b. cond b (Some item) (lookup (same name) es)) (same_from_ne key name ne)) ∙ at)
]

-- the keys of entries, by a look-up
pub any_key : {V : Type 0} (p : List ℕ → Bool) (es : List (List ℕ × V))
    → list_any p (keys_of es) ≡ is_some (lookup p es)
any_key p [] = refl
any_key p (e ∷ es) = search (rules, arith, any_key p es)

-- a key more leaves the others among the keys
pub still_key : {V : Type 0} (es es' : List (List ℕ × V)) (key : List ℕ) (item : V)
    → ((q : List ℕ) → lookup (same q) es' ≡ cond (same key q) (Some item) (lookup (same q) es)) → (q : List ℕ)
    → list_any (same q) (keys_of es) ≡ true → list_any (same q) (keys_of es') ≡ true
still_key es es' key item h q e = search (rules, arith, any_key)

pub new_key : {V : Type 0} (es es' : List (List ℕ × V)) (key : List ℕ) (item : V)
    → ((q : List ℕ) → lookup (same q) es' ≡ cond (same key q) (Some item) (lookup (same q) es)) → (name : List ℕ)
    → key ≡ name → list_any (same name) (keys_of es') ≡ true
new_key es es' key item h name e = search (rules, arith, any_key, same_from_eq)

-- the keys are those that were there and the new one
pub one_key : {V : Type 0} (es es' : List (List ℕ × V)) (key : List ℕ) (item : V)
    → ((q : List ℕ) → lookup (same q) es' ≡ cond (same key q) (Some item) (lookup (same q) es)) → (name : List ℕ)
    → key ≡ name → (q : List ℕ) → list_any (same q) (keys_of es') ≡ (same q name || list_any (same q) (keys_of es))
one_key es es' key item h name e q =
    grind (arith, any_key (same q) es', tied_flips nat_list_cmp_total key q, any_key (same q) es)

module _ {Z : Type 0} where
  -- what a look-up of a shared name gives
  pub is_name : (es : List (List ℕ × Arc (List ℕ) Z)) (name : List ℕ) → AreShared es
      → (r : Option (Bor (Arc (List ℕ) Z))) → option_copied r ≡ lookup (same name) es
      → IfSome r (λ shared. arc_value shared.now ≡ name)
  is_name es name own None e = tt
  is_name es name own (Some shared) e = own name shared.now (sym e)

  pub is_no_key : (es : List (List ℕ × Arc (List ℕ) Z)) (name : List ℕ) (r : Option (Bor (Arc (List ℕ) Z)))
      → option_copied r ≡ lookup (same name) es → IfNone r (list_any (same name) (keys_of es) ≡ false)
  is_no_key es name None e = any_key (same name) es ∙ ap is_some (sym e)
  is_no_key es name (Some shared) e = tt

  abbrev by_name : Arc (List ℕ) Z → Arc (List ℕ) Z → Ordering
  by_name x y = slice_cmp nat_cmp (arc_value x) (arc_value y)

  -- shared names among others, by their values
  pub by_value : (q : Arc (List ℕ) Z) (names : List (Arc (List ℕ) Z))
      → list_any (eq_by_cmp by_name q) names ≡ list_any (same (arc_value q)) (list_map arc_value names)
  by_value q [] = refl
  by_value q (x ∷ names) = ap (λ b. same (arc_value q) (arc_value x) || b) (by_value q names)

  pub name_less : (name : Arc (List ℕ) Z) (old new : List (Arc (List ℕ) Z)) → ((q : Arc (List ℕ) Z)
      → list_any (eq_by_cmp by_name q) new
      ≡ cond (eq_by_cmp by_name name q) false (list_any (eq_by_cmp by_name q) old))
      → (q : List ℕ) → list_any (same q) (list_map arc_value new)
      ≡ (not (same q (arc_value name)) && list_any (same q) (list_map arc_value old))
  name_less name old new h q =
      let like : Arc (List ℕ) Z = record name { value = q } in
      sym (by_value like new) ∙ h like ∙ one_less (arc_value name) q _
      ∙ ap (λ b. not (same q (arc_value name)) && b) (by_value like old)

  -- whether a name that was taken out of a set was alone
  pub was_alone : (name : List ℕ) (old new : List (Arc (List ℕ) Z)) (b : Bool)
      → list_any (same name) (list_map arc_value old) ≡ true
      → ((q : List ℕ) → list_any (same q) (list_map arc_value new)
      ≡ (not (same q name) && list_any (same q) (list_map arc_value old)))
      → IsTrue b ↔ (length new ≡ 0) → b ≡ is_alone name (list_map arc_value old)
  was_alone name old [] b has h is = is.1 refl ∙ sym (alone_none_left name (list_map arc_value old) has h)
  was_alone name old (x ∷ new) b has h is =
      false_from_ne_true b (λ t. length_suc (length new) (is.0 t))
      ∙ sym (alone_one_left name (list_map arc_value old) has (arc_value x) (sym (h (arc_value x))
      ∙ ap (λ b. b || list_any (same (arc_value x)) (list_map arc_value new)) (same_itself (arc_value x))))
    where
      length_suc : (n : ℕ) → suc n ≢ 0
      length_suc n e = omega arith

  -- a set of one name
  pub only_name : (name : Arc (List ℕ) Z) (names : List (Arc (List ℕ) Z)) → length names ≡ 1
      → list_any (eq_by_cmp by_name name) names ≡ true → list_map arc_value names ≡ arc_value name ∷ []
  only_name name [] one has = absurd (true≢false (sym has))
  only_name name (x ∷ []) one has =
      cc (eq_from_same (arc_value name) (arc_value x) (sym (or-false _) ∙ has), or-false _)
  only_name name (x ∷ y ∷ names) one has = absurd (omega (arith, one))

  pub name_more : (name : Arc (List ℕ) Z) (old new : List (Arc (List ℕ) Z)) → ((q : Arc (List ℕ) Z)
      → list_any (eq_by_cmp by_name q) new ≡ cond (eq_by_cmp by_name name q) true (list_any (eq_by_cmp by_name q) old))
      → (q : List ℕ) → list_any (same q) (list_map arc_value new)
      ≡ (same q (arc_value name) || list_any (same q) (list_map arc_value old))
  name_more name old new h q =
      let like : Arc (List ℕ) Z = record name { value = q } in
      sym (by_value like new) ∙ h like ∙ one_more (arc_value name) q _
      ∙ ap (λ b. same q (arc_value name) || b) (by_value like old)

pub always : {T E : Type 0} {P : Type 0} (r : Result T E) → P → OnOk r P
always (Ok x) p = p
always (Err y) p = tt
