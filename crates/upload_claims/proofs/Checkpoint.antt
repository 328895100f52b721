-- A checkpoint is folded to the claims that it was written from.
use Rattle.std.proofs.Common.{◌≡◌, ℕ, Bool, true, false, cond, max, List, [], ◌∷◌, ◌++◌, Option, Some, refl, sym}
use Rattle.std.proofs.Common.{◌∙◌, ap, append_assoc, append-nil, arith}
use Rattle.std.specs.Option.{option_map}
use Rattle.std.specs.declared.cmp.Ordering.{Ordering}
use Rattle.std.specs.Ordering.{eq_by_cmp}
use Rattle.std.specs.Cmp.{IsTotalOrder}
use Rattle.std.specs.Cmp.Lexicographic.{nat_list_cmp_total}
use Rattle.std.specs.FinMap as map
use Rattle.std.specs.FinMap.{FinMap, IsAntisymmetric}
use Rattle.std.specs.FinSet as set
use Rattle.std.specs.FinSet.{FinSet}
use Rattle.upload_names.specs.Digest.{Digest, digest_cmp}
use Rattle.upload_service.specs.Machine.{Table, pair_cmp}
use Rattle.upload_service.proofs.Keeping.Tables.{digests_total, digests_exact, pairs_total, pairs_exact}
use Rattle.upload_service.proofs.Keeping.Swept.{keys_exact}
use Rattle.upload_claims.specs.declared.change.Stretch.{Stretch}
use Rattle.upload_claims.specs.declared.change.Change.{Change}
use Rattle.upload_claims.specs.Claims.{Upload, Claims, end_of, nothing}
use Rattle.upload_claims.specs.Fold.{taken, grown, with_claim, fold}
use Rattle.upload_claims.specs.Checkpoint.{bodies_taken, upload_changes, bodies_joined, blob_changes, pair_changes}
use Rattle.upload_claims.specs.Checkpoint.{from_last, CheckpointIsEnough}
use Rattle.upload_claims.proofs.Tables.{get-insert_same}
use Rattle.upload_claims.proofs.Standing.{end-push}
use Rattle.upload_claims.proofs.Steps.{joined_fits}
use Rattle.upload_claims.proofs.Folding.{fold-append}

twice : {X : Type 0} (b : Bool) (x y : X) (o : Option X) → cond b (Some y) (cond b (Some x) o) ≡ cond b (Some y) o
twice true x y o = refl
twice false x y o = refl

module _ {K X : Type 0} {R : K → K → Ordering} (total : IsTotalOrder R) (exact : IsAntisymmetric R) where
  pub insert-insert : (m : FinMap R X) (k : K) (x y : X) → map.insert (map.insert m k x) k y ≡ map.insert m k y
  insert-insert m k x y =
      map.same_map total exact _ _ (λ q.
      map.get-insert total (map.insert m k x) k y q
      ∙ ap (cond (eq_by_cmp R q k) (Some y)) (map.get-insert total m k x q)
      ∙ twice (eq_by_cmp R q k) x y (map.get m q) ∙ sym (map.get-insert total m k y q))

  -- a table is what its entries make
  made_of_entries : (m : FinMap R X) → map.from_entries (map.entries m) ≡ m
  made_of_entries m =
      map.same_map total exact _ m (λ q. map.get-from_entries total (map.entries m) q ∙ sym (map.get-entries m q))

  -- what is claimed under a key that has just been written
  written_again : (f : Option X → Option X) (m : FinMap R X) (k : K) (x y : X) → f (Some x) ≡ Some y
      → with_claim (map.insert m k x) k (f (map.get (map.insert m k x) k)) ≡ map.insert m k y
  written_again f m k x y e =
      ap (λ o. with_claim (map.insert m k x) k o) (ap f (get-insert_same total exact m k x) ∙ e) ∙ insert-insert m k x y

-- ---- uploads

abbrev pub with_uploads : Claims → Table Upload → Claims
with_uploads c m = record c { uploads = m }

abbrev pub upload : List ℕ → List Stretch → ℕ → Upload
upload name bodies seen = record { name = name; bodies = bodies; seen = seen }

pub bodies_folded : (c : Claims) (m : Table Upload) (at name : List ℕ) (seen : ℕ) (from : ℕ) (front bodies : List Stretch)
    → end_of front ≡ from
    → fold (with_uploads c (map.insert m at (upload name front seen))) (bodies_taken at seen from bodies)
    ≡ with_uploads c (map.insert m at (upload name (front ++ bodies) seen))
bodies_folded c m at name seen from front [] e =
    ap (λ bs. with_uploads c (map.insert m at (upload name bs seen))) (sym (append-nil front))
bodies_folded c m at name seen from front (b ∷ bs) e =
    ap (λ n. fold (with_uploads c n) (bodies_taken at seen b.end bs))
    (written_again nat_list_cmp_total keys_exact (λ o. taken o seen from b) m at (upload name front seen)
    (upload name (front ++ b ∷ []) seen)
    (ap (option_map (λ bodies. upload name bodies seen)) (joined_fits front from b e)))
    ∙ bodies_folded c m at name seen b.end (front ++ b ∷ []) bs (end-push 0 front b)
    ∙ ap (λ bodies. with_uploads c (map.insert m at (upload name bodies seen))) (append_assoc front (b ∷ []) bs)

uploads_folded : (c : Claims) (es : List (List ℕ × Upload)) → c.uploads ≡ map.empty
    → fold c (from_last upload_changes es) ≡ with_uploads c (map.from_entries es)
uploads_folded c [] e = ap (with_uploads c) e
uploads_folded c ((at, u) ∷ es) e =
    fold-append c (from_last upload_changes es) (upload_changes (at, u))
    ∙ ap (λ d. fold d (upload_changes (at, u))) (uploads_folded c es e)
    ∙ bodies_folded c (map.from_entries es) at u.name u.seen 0 [] u.bodies refl

-- ---- blobs

abbrev pub with_blobs : Claims → FinMap digest_cmp (List Stretch) → Claims
with_blobs c m = record c { blobs = m }

pub joins_folded : (c : Claims) (m : FinMap digest_cmp (List Stretch)) (digest : Digest) (from : ℕ)
    (front bodies : List Stretch) → end_of front ≡ from
    → fold (with_blobs c (map.insert m digest front)) (bodies_joined digest from bodies)
    ≡ with_blobs c (map.insert m digest (front ++ bodies))
joins_folded c m digest from front [] e = ap (λ bs. with_blobs c (map.insert m digest bs)) (sym (append-nil front))
joins_folded c m digest from front (b ∷ bs) e =
    ap (λ n. fold (with_blobs c n) (bodies_joined digest b.end bs))
    (written_again digests_total digests_exact (λ o. grown o from b) m digest front (front ++ b ∷ [])
    (joined_fits front from b e))
    ∙ joins_folded c m digest b.end (front ++ b ∷ []) bs (end-push 0 front b)
    ∙ ap (λ bodies. with_blobs c (map.insert m digest bodies)) (append_assoc front (b ∷ []) bs)

blobs_folded : (c : Claims) (es : List (Digest × List Stretch)) → c.blobs ≡ map.empty
    → fold c (from_last blob_changes es) ≡ with_blobs c (map.from_entries es)
blobs_folded c [] e = ap (with_blobs c) e
blobs_folded c ((digest, bodies) ∷ es) e =
    fold-append c (from_last blob_changes es) (blob_changes (digest, bodies))
    ∙ ap (λ d. fold d (blob_changes (digest, bodies))) (blobs_folded c es e)
    ∙ joins_folded c (map.from_entries es) digest 0 [] bodies refl

-- ---- pairs

abbrev pub with_pairs : Claims → FinSet pair_cmp → Claims
with_pairs c ps = record c { pairs = ps }

pairs_folded : (c : Claims) (ps : List (List ℕ × Digest)) → c.pairs ≡ set.empty
    → fold c (from_last pair_changes ps) ≡ with_pairs c (set.from_list ps)
pairs_folded c [] e = ap (with_pairs c) e
pairs_folded c ((name, digest) ∷ ps) e =
    fold-append c (from_last pair_changes ps) (pair_changes (name, digest))
    ∙ ap (λ d. fold d (pair_changes (name, digest))) (pairs_folded c ps e)

made_of_items : (s : FinSet pair_cmp) → set.from_list (set.items s) ≡ s
made_of_items s =
    set.same_set pairs_total pairs_exact _ s (λ q.
    set.contains-from_list pairs_total (set.items s) q ∙ sym (set.contains-items s q))

-- ---- all

abbrev pub counted : ℕ → ℕ → Claims
counted issued told = record nothing { issued = issued; told = told }

pub checkpoint_is_enough : CheckpointIsEnough
checkpoint_is_enough c =
    let ups : List Change = from_last upload_changes (map.entries c.uploads) in
    let blobs : List Change = from_last blob_changes (map.entries c.blobs) in
    let pairs : List Change = from_last pair_changes (set.items c.pairs) in
    let first : Claims = counted c.issued c.told in
    let second : Claims = with_uploads first c.uploads in
    let third : Claims = with_blobs second c.blobs in
    let issued : max 0 c.issued ≡ c.issued = omega arith in
    let told : max 0 c.told ≡ c.told = omega arith in
    ap (λ n. fold (counted n (max 0 c.told)) (ups ++ (blobs ++ pairs))) issued
    ∙ ap (λ n. fold (counted c.issued n) (ups ++ (blobs ++ pairs))) told
    ∙ fold-append first ups (blobs ++ pairs)
    ∙ ap (λ d. fold d (blobs ++ pairs)) (uploads_folded first (map.entries c.uploads) refl
    ∙ ap (with_uploads first) (made_of_entries nat_list_cmp_total keys_exact c.uploads))
    ∙ fold-append second blobs pairs
    ∙ ap (λ d. fold d pairs) (blobs_folded second (map.entries c.blobs) refl
    ∙ ap (with_blobs second) (made_of_entries digests_total digests_exact c.blobs))
    ∙ pairs_folded third (set.items c.pairs) refl ∙ ap (with_pairs third) (made_of_items c.pairs)
