-- The stored blobs and their repositories, by the two trees that they are kept in.
use Rattle.std.proofs.Common.{◌≡◌, ◌≢◌, ℕ, List, [], ◌∷◌, Bool, true, false, Option, Some, None, refl, sym, ◌∙◌, ap}
use Rattle.std.proofs.Common.{cond, inl, inr, map as list_map, arith, rules}
use Rattle.std.specs.Prelude.{◌||◌, ◌&&◌, not, is_some, OnOk, OnErr}
use Rattle.std.specs.declared.result.Result.{Result}
use Rattle.std.specs.declared.result.Result.TheVariants.{Ok, Err}
use Rattle.std.specs.List.{list_any}
use Rattle.std.specs.Ordering.{eq_by_cmp}
use Rattle.std.specs.FinMap as map
use Rattle.std.specs.FinSet as set
use Rattle.std.specs.FinSet.{FinSet}
use Rattle.std.specs.Map.{lookup}
use Rattle.std.proofs.lemmas.Bool.{true≢false, false_from_ne_true}
use Rattle.upload_names.specs.Digest.{Digest, digest_cmp}
use Rattle.upload_names.specs.declared.digest.Algorithm.TheVariants as algorithms
use Rattle.upload_service.specs.declared.stock.Item.{Item}
use Rattle.upload_service.specs.Machine.{same, same_digest, pair_cmp}
use Rattle.upload_service.specs.Kept.Stock.{blob_in, is_held, or_empty, rows, noted, pairs_of, stocked, sha256_digest}
use Rattle.upload_service.specs.Kept.Stock.{sha512_digest, AreKnown}
use Rattle.upload_service.proofs.Keeping.Kept.{get-kept}
use Rattle.upload_service.proofs.Keeping.Tables.{same_from_eq, same_from_ne, one_or_two, digests_total, digests_exact}
use Rattle.upload_service.proofs.Keeping.Tables.{pairs_total, pairs_exact, contains-insert, eq_from_same_digest}
use Rattle.upload_service.proofs.Keeping.Tables.{blob-insert}

abbrev pub Items : Type 0
Items = List (List ℕ × Item)

-- a look-up among the items of both trees is one in the tree of its algorithm
none_of_sha512 : (q : List ℕ) (fs : Items)
    → lookup (same_digest (sha256_digest q)) (list_map (λ e. (sha512_digest e.0, e.1)) fs) ≡ None
none_of_sha512 q [] = refl
none_of_sha512 q (f ∷ fs) = none_of_sha512 q fs

pub in_sha256 : (es fs : Items) (q : List ℕ) → lookup (same_digest (sha256_digest q)) (rows es fs) ≡ lookup (same q) es
in_sha256 [] fs q = none_of_sha512 q fs
in_sha256 (e ∷ es) fs q = ap (cond (same q e.0) (Some e.1)) (in_sha256 es fs q)

only_sha512 : (fs : Items) (q : List ℕ)
    → lookup (same_digest (sha512_digest q)) (list_map (λ e. (sha512_digest e.0, e.1)) fs) ≡ lookup (same q) fs
only_sha512 [] q = refl
only_sha512 (f ∷ fs) q = ap (cond (same q f.0) (Some f.1)) (only_sha512 fs q)

pub in_sha512 : (es fs : Items) (q : List ℕ) → lookup (same_digest (sha512_digest q)) (rows es fs) ≡ lookup (same q) fs
in_sha512 [] fs q = only_sha512 fs q
in_sha512 (e ∷ es) fs q = in_sha512 es fs q

-- what holds of the digests of both algorithms holds of all
by_algorithm : (P : Digest → Type 0) → ((q : List ℕ) → P (sha256_digest q)) → ((q : List ℕ) → P (sha512_digest q))
    → (d : Digest) → P d
by_algorithm P one other d = elim d.algorithm as (λ a. P (record { algorithm = a; bytes = d.bytes })) [
  | algorithms.Sha256 ↦ one d.bytes
  | algorithms.Sha512 ↦ other d.bytes
]

-- the name first, and then the digest
pub names_first : (x n : List ℕ) (y d : Digest) → eq_by_cmp pair_cmp (x, y) (n, d) ≡ (same x n && same_digest y d)
names_first x n y d = search (rules, arith)

-- a pair among those of a digest and others
contains-noted : (digest : Digest) (names : List (List ℕ)) (others : FinSet pair_cmp) (n : List ℕ) (d : Digest)
    → set.contains (noted digest names others) (n, d)
    ≡ ((same_digest d digest && list_any (same n) names) || set.contains others (n, d))
contains-noted digest [] others n d = search (rules, arith)
contains-noted digest (name ∷ names) others n d =
    search (rules, arith, contains-insert, names_first, contains-noted digest names others n d)

contains_rows : (es : List (Digest × Item)) (n : List ℕ) (d : Digest)
    → set.contains (pairs_of es) (n, d) ≡ is_held n (lookup (same_digest d) es)
contains_rows [] n d = set.contains-empty pair_cmp (n, d)
contains_rows (e ∷ es) n d =
    contains-noted e.0 e.1.holders _ n d
    ∙ ap (λ b. (same_digest d e.0 && list_any (same n) e.1.holders) || b)
    (set.contains-retain (pairs_of es) (λ p. not (same_digest p.1 e.0)) (n, d)
    (λ x t. ap (λ p. not (same_digest p.1 e.0)) (sym (pairs_exact (n, d) x t)))
    ∙ ap (λ b. b && not (same_digest d e.0)) (contains_rows es n d))
    ∙ first (same_digest d e.0)
  where
    first : (b : Bool) → ((b && list_any (same n) e.1.holders) || (is_held n (lookup (same_digest d) es) && not b))
        ≡ is_held n (cond b (Some e.1) (lookup (same_digest d) es))
    first true = last (list_any (same n) e.1.holders) (is_held n (lookup (same_digest d) es))
      where
        last : (a b : Bool) → (a || (b && false)) ≡ a
        last true b = refl
        last false true = refl
        last false false = refl
    first false = keep (is_held n (lookup (same_digest d) es))
      where
        keep : (a : Bool) → (a && true) ≡ a
        keep true = refl
        keep false = refl

-- the blob of a digest, and whether a repository has it
pub get-stocked : (es fs : Items) (d : Digest)
    → map.get (stocked es fs).blobs d ≡ blob_in (lookup (same_digest d) (rows es fs))
get-stocked es fs d = get-kept digests_total digests_exact (λ (item : Item). item.blob) (rows es fs) d

pub contains-stocked : (es fs : Items) (n : List ℕ) (d : Digest)
    → set.contains (stocked es fs).pairs (n, d) ≡ is_held n (lookup (same_digest d) (rows es fs))
contains-stocked es fs n d = contains_rows (rows es fs) n d

pub get_sha256 : (es fs : Items) (q : List ℕ)
    → map.get (stocked es fs).blobs (sha256_digest q) ≡ blob_in (lookup (same q) es)
get_sha256 es fs q = get-stocked es fs (sha256_digest q) ∙ ap blob_in (in_sha256 es fs q)

pub get_sha512 : (es fs : Items) (q : List ℕ)
    → map.get (stocked es fs).blobs (sha512_digest q) ≡ blob_in (lookup (same q) fs)
get_sha512 es fs q = get-stocked es fs (sha512_digest q) ∙ ap blob_in (in_sha512 es fs q)

pub contains_sha256 : (es fs : Items) (n q : List ℕ)
    → set.contains (stocked es fs).pairs (n, sha256_digest q) ≡ is_held n (lookup (same q) es)
contains_sha256 es fs n q = contains-stocked es fs n (sha256_digest q) ∙ ap (is_held n) (in_sha256 es fs q)

pub contains_sha512 : (es fs : Items) (n q : List ℕ)
    → set.contains (stocked es fs).pairs (n, sha512_digest q) ≡ is_held n (lookup (same q) fs)
contains_sha512 es fs n q = contains-stocked es fs n (sha512_digest q) ∙ ap (is_held n) (in_sha512 es fs q)

-- what is held is there
pub held_is_there : (n : List ℕ) (o : Option Item) → is_held n o ≡ true → is_some (blob_in o) ≡ true
held_is_there n None e = e
held_is_there n (Some item) e = refl

-- stocks with the same blobs, and with the same pairs
pub same_blobs : (m n : map.FinMap digest_cmp (List ℕ))
    → ((q : List ℕ) → map.get m (sha256_digest q) ≡ map.get n (sha256_digest q))
    → ((q : List ℕ) → map.get m (sha512_digest q) ≡ map.get n (sha512_digest q)) → m ≡ n
same_blobs m n one other =
    map.same_map digests_total digests_exact m n (by_algorithm (λ d. map.get m d ≡ map.get n d) one other)

pub same_pairs : (m n : FinSet pair_cmp)
    → ((x q : List ℕ) → set.contains m (x, sha256_digest q) ≡ set.contains n (x, sha256_digest q))
    → ((x q : List ℕ) → set.contains m (x, sha512_digest q) ≡ set.contains n (x, sha512_digest q)) → m ≡ n
same_pairs m n one other =
    set.same_set pairs_total pairs_exact m n
    (λ p. by_algorithm (λ d. set.contains m (p.0, d) ≡ set.contains n (p.0, d)) (one p.0) (other p.0) p.1)

-- what a change of one tree does to the stock
module _ (es es' fs : Items) where
  pub kept_sha256 : ((q : List ℕ) → lookup (same q) es' ≡ lookup (same q) es) → stocked es' fs ≡ stocked es fs
  kept_sha256 h = λ i. record {
    blobs =
        same_blobs (stocked es' fs).blobs (stocked es fs).blobs
        (λ q. get_sha256 es' fs q ∙ ap blob_in (h q) ∙ sym (get_sha256 es fs q))
        (λ q. get_sha512 es' fs q ∙ sym (get_sha512 es fs q)) i;
    pairs =
        same_pairs (stocked es' fs).pairs (stocked es fs).pairs
        (λ x q. contains_sha256 es' fs x q ∙ ap (is_held x) (h q) ∙ sym (contains_sha256 es fs x q))
        (λ x q. contains_sha512 es' fs x q ∙ sym (contains_sha512 es fs x q)) i;
  }

  pub blobs_sha256 : (key blob : List ℕ)
      → ((q : List ℕ) → blob_in (lookup (same q) es') ≡ cond (same q key) (Some blob) (blob_in (lookup (same q) es)))
      → (stocked es' fs).blobs ≡ map.insert (stocked es fs).blobs (sha256_digest key) blob
  blobs_sha256 key blob h = search (rules, arith, same_blobs, get_sha256, blob-insert, get_sha512)

  pub pairs_sha256 : (key name : List ℕ) → ((q n : List ℕ)
      → is_held n (lookup (same q) es') ≡ ((same q key && same n name) || is_held n (lookup (same q) es)))
      → (stocked es' fs).pairs ≡ set.insert (stocked es fs).pairs (name, sha256_digest key)
  pairs_sha256 key name h = same_pairs _ _
      (λ x q. contains_sha256 es' fs x q ∙ h q x
      ∙ sym (contains-insert (stocked es fs).pairs (name, sha256_digest key) (x, sha256_digest q)
      ∙ (λ i. (names_first x name (sha256_digest q) (sha256_digest key) ∙ flip (same x name) (same q key)) i
      || contains_sha256 es fs x q i)))
      (λ x q. contains_sha512 es' fs x q
      ∙ sym (contains-insert (stocked es fs).pairs (name, sha256_digest key) (x, sha512_digest q)
      ∙ (λ i. (names_first x name (sha512_digest q) (sha256_digest key) ∙ flip (same x name) false) i
      || contains_sha512 es fs x q i)))
    where
      flip : (a b : Bool) → (a && b) ≡ (b && a)
      flip true true = refl
      flip true false = refl
      flip false true = refl
      flip false false = refl

  pub same_pairs_sha256 : ((q n : List ℕ) → is_held n (lookup (same q) es') ≡ is_held n (lookup (same q) es))
      → (stocked es' fs).pairs ≡ (stocked es fs).pairs
  same_pairs_sha256 h = search (rules, arith, same_pairs, contains_sha256, contains_sha512)

module _ (es fs fs' : Items) where
  pub kept_sha512 : ((q : List ℕ) → lookup (same q) fs' ≡ lookup (same q) fs) → stocked es fs' ≡ stocked es fs
  kept_sha512 h = λ i. record {
    blobs =
        same_blobs (stocked es fs').blobs (stocked es fs).blobs (λ q. get_sha256 es fs' q ∙ sym (get_sha256 es fs q))
        (λ q. get_sha512 es fs' q ∙ ap blob_in (h q) ∙ sym (get_sha512 es fs q)) i;
    pairs =
        same_pairs (stocked es fs').pairs (stocked es fs).pairs
        (λ x q. contains_sha256 es fs' x q ∙ sym (contains_sha256 es fs x q))
        (λ x q. contains_sha512 es fs' x q ∙ ap (is_held x) (h q) ∙ sym (contains_sha512 es fs x q)) i;
  }

  pub blobs_sha512 : (key blob : List ℕ)
      → ((q : List ℕ) → blob_in (lookup (same q) fs') ≡ cond (same q key) (Some blob) (blob_in (lookup (same q) fs)))
      → (stocked es fs').blobs ≡ map.insert (stocked es fs).blobs (sha512_digest key) blob
  blobs_sha512 key blob h = search (rules, arith, same_blobs, get_sha256, blob-insert, get_sha512)

  pub pairs_sha512 : (key name : List ℕ) → ((q n : List ℕ)
      → is_held n (lookup (same q) fs') ≡ ((same q key && same n name) || is_held n (lookup (same q) fs)))
      → (stocked es fs').pairs ≡ set.insert (stocked es fs).pairs (name, sha512_digest key)
  pairs_sha512 key name h = same_pairs _ _
      (λ x q. contains_sha256 es fs' x q
      ∙ sym (contains-insert (stocked es fs).pairs (name, sha512_digest key) (x, sha256_digest q)
      ∙ (λ i. (names_first x name (sha256_digest q) (sha512_digest key) ∙ flip (same x name) false) i
      || contains_sha256 es fs x q i)))
      (λ x q. contains_sha512 es fs' x q ∙ h q x
      ∙ sym (contains-insert (stocked es fs).pairs (name, sha512_digest key) (x, sha512_digest q)
      ∙ (λ i. (names_first x name (sha512_digest q) (sha512_digest key) ∙ flip (same x name) (same q key)) i
      || contains_sha512 es fs x q i)))
    where
      flip : (a b : Bool) → (a && b) ≡ (b && a)
      flip true true = refl
      flip true false = refl
      flip false true = refl
      flip false false = refl

  pub same_pairs_sha512 : ((q n : List ℕ) → is_held n (lookup (same q) fs') ≡ is_held n (lookup (same q) fs))
      → (stocked es fs').pairs ≡ (stocked es fs).pairs
  same_pairs_sha512 h = search (rules, arith, same_pairs, contains_sha256, contains_sha512)

-- a blob that is put in the place of one that was put there
pub put_again : (m : map.FinMap digest_cmp (List ℕ)) (d : Digest) (one other : List ℕ)
    → map.insert (map.insert m d one) d other ≡ map.insert m d other
put_again m d one other = map.same_map digests_total digests_exact _ _ (λ q.
    blob-insert (map.insert m d one) d other q
    ∙ ap (cond (same_digest q d) (Some other)) (blob-insert m d one q)
    ∙ later (same_digest q d) (Some other) (Some one) (map.get m q)
    ∙ sym (blob-insert m d other q))
  where
    later : (b : Bool) (x y z : Option (List ℕ)) → cond b x (cond b y z) ≡ cond b x z
    later true x y z = refl
    later false x y z = refl

-- a blob that is put in its own place
pub put_itself : (m : map.FinMap digest_cmp (List ℕ)) (d : Digest) (blob : List ℕ) → map.get m d ≡ Some blob
    → map.insert m d blob ≡ m
put_itself m d blob h =
    map.same_map digests_total digests_exact _ _ (λ q. blob-insert m d blob q ∙ at q (same_digest q d) refl)
  where
    at : (q : Digest) (b : Bool) → same_digest q d ≡ b → cond b (Some blob) (map.get m q) ≡ map.get m q
    at q true e = sym h ∙ ap (map.get m) (sym (eq_from_same_digest q d e))
    at q false e = refl

pub put_back : (m : map.FinMap digest_cmp (List ℕ)) (d : Digest) → is_some (map.get m d) ≡ true
    → map.insert m d (or_empty (map.get m d)) ≡ m
put_back m d h = search (rules, arith, true≢false, put_itself)

-- what a new item under a key does to the look-ups, if `before` was under it
module _ (es es' : Items) (key : List ℕ) (item : Item) (before : Option Item) (has : before ≡ lookup (same key) es)
    (h : (q : List ℕ) → lookup (same q) es' ≡ cond (same key q) (Some item) (lookup (same q) es)) where
  at_key : (q : List ℕ) → q ≡ key → lookup (same q) es' ≡ Some item
  at_key q e = h q ∙ ap (λ b. cond b (Some item) (lookup (same q) es)) (same_from_eq key q (sym e))

  pub elsewhere : (q : List ℕ) → q ≢ key → lookup (same q) es' ≡ lookup (same q) es
  elsewhere q ne = h q ∙ ap (λ b. cond b (Some item) (lookup (same q) es)) (same_from_ne key q (λ e. ne (sym e)))

  pub blob_written : (q : List ℕ)
      → blob_in (lookup (same q) es') ≡ cond (same q key) (Some item.blob) (blob_in (lookup (same q) es))
  blob_written q = search (rules, arith, one_or_two, at_key, same_from_eq, elsewhere, same_from_ne)

  pub blob_kept : item.blob ≡ or_empty (blob_in before) → (q : List ℕ) → blob_in (lookup (same q) es')
      ≡ cond (same q key) (Some (or_empty (blob_in (lookup (same key) es)))) (blob_in (lookup (same q) es))
  blob_kept e q = cc (blob_written q)

  pub held_more : (name : List ℕ) → ((n : List ℕ) → list_any (same n) item.holders ≡ (same n name || is_held n before))
      → (q n : List ℕ)
      → is_held n (lookup (same q) es') ≡ ((same q key && same n name) || is_held n (lookup (same q) es))
  held_more name more q n = search (rules, arith, one_or_two, at_key, same_from_eq, elsewhere, same_from_ne)

  pub held_less : (name : List ℕ)
      → ((n : List ℕ) → list_any (same n) item.holders ≡ (not (same n name) && is_held n before)) → (q n : List ℕ)
      → is_held n (lookup (same q) es') ≡ (not (same q key && same n name) && is_held n (lookup (same q) es))
  held_less name less q n = search (rules, arith, one_or_two, at_key, same_from_eq, elsewhere, same_from_ne)

  pub blob_same : Some item.blob ≡ blob_in before → (q : List ℕ)
      → blob_in (lookup (same q) es') ≡ blob_in (lookup (same q) es)
  blob_same is q = elim (one_or_two q key) [
    | inl e ↦ ap blob_in (at_key q e) ∙ is ∙ ap blob_in (has ∙ sym (ap (λ r. lookup (same r) es) e))
    | inr ne ↦ ap blob_in (elsewhere q ne)
  ]

  pub held_kept : ((n : List ℕ) → list_any (same n) item.holders ≡ is_held n before) → (q n : List ℕ)
      → is_held n (lookup (same q) es') ≡ is_held n (lookup (same q) es)
  held_kept keeps q n = search (rules, arith, one_or_two, at_key, elsewhere)

  pub item_kept : Some item ≡ before → (q : List ℕ) → lookup (same q) es' ≡ lookup (same q) es
  item_kept e q = elim (one_or_two q key) [
    | inl at ↦ at_key q at ∙ e ∙ has ∙ sym (ap (λ r. lookup (same r) es) at)
    | inr ne ↦ elsewhere q ne
  ]

-- names that are known

pub not_known : (names : List (List ℕ)) (pairs : FinSet pair_cmp) → AreKnown names pairs → (n : List ℕ) (d : Digest)
    → list_any (same n) names ≡ false → set.contains pairs (n, d) ≡ false
not_known names pairs known n d e = search (rules, arith, false_from_ne_true, true≢false)

pub still_known : (names names' : List (List ℕ)) (pairs pairs' : FinSet pair_cmp) → AreKnown names pairs
    → ((q : List ℕ) → list_any (same q) names ≡ true → list_any (same q) names' ≡ true) → pairs' ≡ pairs
    → AreKnown names' pairs'
still_known names names' pairs pairs' known kept e = search (rules, arith)

pub one_more_known : (names names' : List (List ℕ)) (pairs pairs' : FinSet pair_cmp) (name : List ℕ) (digest : Digest)
    → AreKnown names pairs → ((q : List ℕ) → list_any (same q) names ≡ true → list_any (same q) names' ≡ true)
    → list_any (same name) names' ≡ true → pairs' ≡ set.insert pairs (name, digest) → AreKnown names' pairs'
one_more_known names names' pairs pairs' name digest known kept new e =
    search (rules, arith, contains-insert, names_first, one_or_two, same_from_ne)

-- what holds after either answer
pub after_either : {T E : Type 0} {A B G : Type 0} (r : Result T E) → OnOk r A → OnErr r B → (A → G) → (B → G) → G
after_either (Ok x) a b f g = f a
after_either (Err y) a b f g = g b
