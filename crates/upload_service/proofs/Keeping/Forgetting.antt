-- A repository that has a blob no more, by the trees that the blobs are kept in.
use Rattle.std.proofs.Common.{◌≡◌, ◌≢◌, ℕ, ◌+◌, List, true, false, Option, Some, None, sym, ◌∙◌, ap}
use Rattle.std.proofs.Common.{cond, inl, inr, arith, rules}
use Rattle.std.specs.Prelude.{◌||◌, ◌&&◌, ◌==◌, not}
use Rattle.std.specs.List.{list_any, list_all}
use Rattle.std.specs.FinSet as set
use Rattle.std.specs.FinSet.{FinSet}
use Rattle.std.specs.Map.{lookup}
use Rattle.std.proofs.lemmas.Bool.{false_from_ne_true, and_parts}
use Rattle.std.proofs.Math.Bool.{and-false, and_comm, or-false}
use Rattle.upload_names.specs.Digest.{Digest}
use Rattle.upload_service.specs.declared.stock.Item.{Item}
use Rattle.upload_service.specs.Machine.{same, same_digest, pair_cmp}
use Rattle.upload_service.specs.Forgotten.{pairs_under, is_only, blobs_left}
use Rattle.upload_service.specs.Kept.Stock.{blob_in, is_held, is_held_alone, stocked, sha256_digest, sha512_digest}
use Rattle.upload_service.specs.Kept.Stock.{AreKnown}
use Rattle.upload_service.proofs.Forgotten.{contains-under, contains-remove, not_only, get-without}
use Rattle.upload_service.proofs.Keeping.Holding.{alone_all, other_of}
use Rattle.upload_service.proofs.Keeping.Stocked.{Items, names_first, same_blobs, same_pairs, get_sha256, get_sha512}
use Rattle.upload_service.proofs.Keeping.Stocked.{contains_sha256, contains_sha512, elsewhere}
use Rattle.upload_service.proofs.Keeping.Tables.{one_or_two, one_or_two_digests, same_from_eq, same_from_ne}
use Rattle.upload_service.proofs.Keeping.Tables.{same_digest_from_ne, ne_from_same, pairs_total, pairs_exact}
use Rattle.upload_service.proofs.Keeping.Tables.{contains-insert}

-- ONE TREE

-- what a repository that hasn't the blob of a key loses of it
module _ (es : Items) (key name : List ℕ) (none : is_held name (lookup (same key) es) ≡ false) where
  pub held_absent : (q n : List ℕ) → is_held n (lookup (same q) es)
      ≡ (not (same q key && same n name) && is_held n (lookup (same q) es))
  held_absent q n = search (rules, arith, one_or_two, and-false, same_from_ne)

pub blob_stays : (es es' : Items) (key name : List ℕ) → is_held_alone name (lookup (same key) es) ≡ false
    → ((q : List ℕ) → blob_in (lookup (same q) es') ≡ blob_in (lookup (same q) es)) → (q : List ℕ)
    → blob_in (lookup (same q) es')
    ≡ cond (same q key && is_held_alone name (lookup (same key) es)) None (blob_in (lookup (same q) es))
blob_stays es es' key name alone h q = search (rules, arith, and-false)

-- an item that is written under a key and removed then
module _ (es es' es'' : Items) (key : List ℕ) (was item : Item) (has : Some was ≡ lookup (same key) es)
    (h : (q : List ℕ) → lookup (same q) es' ≡ cond (same key q) (Some item) (lookup (same q) es))
    (r : (q : List ℕ) → lookup (same q) es'' ≡ cond (same key q) None (lookup (same q) es'))
    (name : List ℕ) (alone : is_held_alone name (lookup (same key) es) ≡ true) where
  gone_at : (q : List ℕ) → q ≡ key → lookup (same q) es'' ≡ None
  gone_at q e = r q ∙ ap (λ b. cond b None (lookup (same q) es')) (same_from_eq key q (sym e))

  else_same : (q : List ℕ) → q ≢ key → lookup (same q) es'' ≡ lookup (same q) es
  else_same q ne = search (rules, arith, same_from_ne, elsewhere)

  pub blob_gone : (q : List ℕ) → blob_in (lookup (same q) es'')
      ≡ cond (same q key && is_held_alone name (lookup (same key) es)) None (blob_in (lookup (same q) es))
  blob_gone q = search (rules, arith, one_or_two, gone_at, same_from_eq, else_same, same_from_ne)

  no_other : (q n : List ℕ) → q ≡ key → n ≢ name → is_held n (lookup (same q) es) ≡ false
  no_other q n e ne = search (rules, arith, false_from_ne_true, alone_all, and_parts)

  pub held_gone : (q n : List ℕ)
      → is_held n (lookup (same q) es'') ≡ (not (same q key && same n name) && is_held n (lookup (same q) es))
  held_gone q n =
      search (rules, arith, one_or_two, gone_at, same_from_eq, no_other, and-false, else_same, same_from_ne)

-- BOTH TREES

-- a repository is the only one that has a blob if it is alone with its item
module _ (pairs : FinSet pair_cmp) (digest : Digest) (name : List ℕ) (item : Item)
    (h : (n : List ℕ) → set.contains pairs (n, digest) ≡ list_any (same n) item.holders)
    (has : list_any (same name) item.holders ≡ true) where
  abbrev only_pair : FinSet pair_cmp
  only_pair = set.insert set.empty (name, digest)

  one_pair : list_all (same name) item.holders ≡ true → pairs_under pairs digest ≡ only_pair
  one_pair all = set.same_set pairs_total pairs_exact _ _ (λ p. at p.0 p.1)
    where
      its : (n : List ℕ) → list_any (same n) item.holders ≡ same n name
      its n = elim (one_or_two n name) [
        | inl e ↦ ap (λ r. list_any (same r) item.holders) e ∙ has ∙ sym (same_from_eq n name e)
        | inr ne ↦ false_from_ne_true (list_any (same n) item.holders) (λ t. ne (alone_all name item.holders all n t))
            ∙ sym (same_from_ne n name ne)
      ]

      either : (n : List ℕ) (d : Digest) → (set.contains pairs (n, d) && same_digest d digest)
          ≡ (same n name && same_digest d digest)
      either n d = elim (one_or_two_digests d digest) [
        | inl e ↦ ap (λ b. b && same_digest d digest) (ap (λ r. set.contains pairs (n, r)) e ∙ h n ∙ its n)
        | inr ne ↦ ap (λ b. set.contains pairs (n, d) && b) (same_digest_from_ne d digest ne) ∙ and-false _
            ∙ sym (ap (λ b. same n name && b) (same_digest_from_ne d digest ne) ∙ and-false _)
      ]

      at : (n : List ℕ) (d : Digest)
          → set.contains (pairs_under pairs digest) (n, d) ≡ set.contains only_pair (n, d)
      at n d = contains-under pairs digest n d ∙ either n d
          ∙ sym (contains-insert set.empty (name, digest) (n, d)
          ∙ (λ i. names_first n name d digest i || set.contains-empty pair_cmp (n, d) i)
          ∙ or-false (same n name && same_digest d digest))

  one_len : list_all (same name) item.holders ≡ true → set.len (pairs_under pairs digest) ≡ 1
  one_len all =
      ap (λ (s : FinSet pair_cmp). set.len s) (one_pair all)
      ∙ set.len-insert pairs_total set.empty (name, digest)
      ∙ (λ i. cond (set.contains-empty pair_cmp (name, digest) i) (set.len-empty pair_cmp i)
      (set.len-empty pair_cmp i + 1))

  pub only_if_all : (set.len (pairs_under pairs digest) == 1) ≡ list_all (same name) item.holders
  only_if_all = search (rules, arith, one_len, other_of, not_only, ne_from_same)

pub only_by : (pairs : FinSet pair_cmp) (digest : Digest) (name : List ℕ) (o : Option Item)
    → ((n : List ℕ) → set.contains pairs (n, digest) ≡ is_held n o) → is_only pairs name digest ≡ is_held_alone name o
only_by pairs digest name None h = ap (λ b. b && (set.len (pairs_under pairs digest) == 1)) (h name)
only_by pairs digest name (Some item) h = search (rules, arith, only_if_all)

-- the blobs and the pairs of both trees, of which one loses a repository's blob
module _ (es es' fs : Items) (key name : List ℕ) where
  pub blobs_left_sha256 : ((q : List ℕ) → blob_in (lookup (same q) es')
      ≡ cond (same q key && is_held_alone name (lookup (same key) es)) None (blob_in (lookup (same q) es)))
      → (stocked es' fs).blobs
      ≡ blobs_left (stocked es fs).blobs (stocked es fs).pairs name (sha256_digest key)
  blobs_left_sha256 h =
      search (rules, arith, same_blobs, get_sha256, get-without, get_sha512, only_by, contains_sha256)

  pub pairs_left_sha256 : ((q n : List ℕ)
      → is_held n (lookup (same q) es') ≡ (not (same q key && same n name) && is_held n (lookup (same q) es)))
      → (stocked es' fs).pairs ≡ set.remove (stocked es fs).pairs (name, sha256_digest key)
  pairs_left_sha256 h = same_pairs _ _
      (λ x q. contains_sha256 es' fs x q ∙ h q x
      ∙ sym (contains-remove (stocked es fs).pairs (name, sha256_digest key) (x, sha256_digest q)
      ∙ (λ i. not ((names_first x name (sha256_digest q) (sha256_digest key) ∙ and_comm (same x name) (same q key)) i)
      && contains_sha256 es fs x q i)))
      (λ x q. contains_sha512 es' fs x q
      ∙ sym (contains-remove (stocked es fs).pairs (name, sha256_digest key) (x, sha512_digest q)
      ∙ (λ i. not ((names_first x name (sha512_digest q) (sha256_digest key) ∙ and-false (same x name)) i)
      && contains_sha512 es fs x q i)))

module _ (es fs fs' : Items) (key name : List ℕ) where
  pub blobs_left_sha512 : ((q : List ℕ) → blob_in (lookup (same q) fs')
      ≡ cond (same q key && is_held_alone name (lookup (same key) fs)) None (blob_in (lookup (same q) fs)))
      → (stocked es fs').blobs
      ≡ blobs_left (stocked es fs).blobs (stocked es fs).pairs name (sha512_digest key)
  blobs_left_sha512 h =
      search (rules, arith, same_blobs, get_sha256, get-without, get_sha512, only_by, contains_sha512)

  pub pairs_left_sha512 : ((q n : List ℕ)
      → is_held n (lookup (same q) fs') ≡ (not (same q key && same n name) && is_held n (lookup (same q) fs)))
      → (stocked es fs').pairs ≡ set.remove (stocked es fs).pairs (name, sha512_digest key)
  pairs_left_sha512 h = same_pairs _ _
      (λ x q. contains_sha256 es fs' x q
      ∙ sym (contains-remove (stocked es fs).pairs (name, sha512_digest key) (x, sha256_digest q)
      ∙ (λ i. not ((names_first x name (sha256_digest q) (sha512_digest key) ∙ and-false (same x name)) i)
      && contains_sha256 es fs x q i)))
      (λ x q. contains_sha512 es fs' x q ∙ h q x
      ∙ sym (contains-remove (stocked es fs).pairs (name, sha512_digest key) (x, sha512_digest q)
      ∙ (λ i. not ((names_first x name (sha512_digest q) (sha512_digest key) ∙ and_comm (same x name) (same q key)) i)
      && contains_sha512 es fs x q i)))

-- a pair less has no name that isn't known
pub fewer_known : (names : List (List ℕ)) (pairs pairs' : FinSet pair_cmp) (p : List ℕ × Digest) → AreKnown names pairs
    → pairs' ≡ set.remove pairs p → AreKnown names pairs'
fewer_known names pairs pairs' p known e = search (rules, arith, and_parts, contains-remove)
