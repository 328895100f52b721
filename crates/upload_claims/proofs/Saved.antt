-- Rows that are written in the order of their keys are folded to their table.
use Rattle.std.proofs.Common.{◌≡◌, ℕ, Bool, true, false, cond, List, [], ◌∷◌, ◌++◌, Option, Some, None, refl, sym, ◌∙◌}
use Rattle.std.proofs.Common.{ap, flat_map}
use Rattle.std.specs.Prelude.{◌||◌}
use Rattle.std.specs.List.{IsDistinct, list_any}
use Rattle.std.specs.List.Sorted.{IsStrictlySortedBy}
use Rattle.std.specs.Option.{option_map}
use Rattle.std.specs.Map.{lookup, keys_of}
use Rattle.std.specs.declared.cmp.Ordering.{Ordering}
use Rattle.std.specs.Ordering.{eq_by_cmp}
use Rattle.std.specs.Cmp.{IsTotalOrder, eq_by_cmp_equiv}
use Rattle.std.specs.Cmp.Lexicographic.{nat_list_cmp_total}
use Rattle.std.specs.FinMap as map
use Rattle.std.specs.FinMap.{FinMap, IsAntisymmetric}
use Rattle.std.specs.FinSet as set
use Rattle.std.specs.FinSet.{FinSet}
use Rattle.std.proofs.lemmas.List.Concat.{flat_map-cons}
use Rattle.std.proofs.lemmas.Map.{lookup-none}
use Rattle.std.proofs.lemmas.Map.Entries.{none_past_head}
use Rattle.std.proofs.lemmas.Map.Keys.{IsDistinct-from_sorted, IsDistinct-tail}
use Rattle.upload_names.specs.Digest.{Digest, digest_cmp}
use Rattle.upload_service.specs.Machine.{Table, pair_cmp}
use Rattle.upload_service.specs.Kept.Entries.{kept_as}
use Rattle.upload_service.proofs.Keeping.Kept.{get-kept}
use Rattle.upload_service.proofs.Keeping.Swept.{bytes_cmp, keys_exact}
use Rattle.upload_service.proofs.Keeping.Tables.{digests_total, digests_exact, pairs_total, pairs_exact}
use Rattle.upload_claims.specs.declared.change.Stretch.{Stretch}
use Rattle.upload_claims.specs.declared.change.Change.{Change}
use Rattle.upload_claims.specs.declared.uploads.ClaimedUpload.{ClaimedUpload}
use Rattle.upload_claims.specs.declared.blobs.ClaimedBlob.{ClaimedBlob}
use Rattle.upload_claims.specs.Claims.{Upload, Claims}
use Rattle.upload_claims.specs.Fold.{fold}
use Rattle.upload_claims.specs.Kept.{upload_of, blob_of, upload_row, blob_row}
use Rattle.upload_claims.specs.Checkpoint.{upload_changes, blob_changes, pair_changes}
use Rattle.upload_claims.specs.Saved.{SavesUploads, SavesBlobs, SavesPairs}
use Rattle.upload_claims.proofs.Checkpoint.{with_uploads, with_blobs, with_pairs, bodies_folded, joins_folded}
use Rattle.upload_claims.proofs.Folding.{fold-append}

abbrev or_else : {X : Type 0} → Option X → Option X → Option X
or_else None p = p
or_else (Some x) p = Some x

or_none : {X : Type 0} (o : Option X) → or_else o None ≡ o
or_none None = refl
or_none (Some x) = refl

module _ {K V X : Type 0} {R : K → K → Ordering} (total : IsTotalOrder R) (exact : IsAntisymmetric R) (f : V → X) where
  abbrev insert_all : FinMap R X → List (K × V) → FinMap R X
  insert_all m [] = m
  insert_all m (e ∷ es) = insert_all (map.insert m e.0 (f e.1)) es

  one_of : (q : K) (e : K × V) (es : List (K × V)) (o : Option X) (b : Bool) → IsDistinct (eq_by_cmp R) (keys_of (e ∷ es))
      → eq_by_cmp R q e.0 ≡ b
      → or_else (option_map f (lookup (eq_by_cmp R q) es)) (cond b (Some (f e.1)) o)
      ≡ or_else (option_map f (cond b (Some e.1) (lookup (eq_by_cmp R q) es))) o
  one_of q e es o true d is =
      ap (λ p. or_else (option_map f p) (Some (f e.1)))
      (lookup-none (eq_by_cmp R q) es (none_past_head (eq_by_cmp_equiv total) q e es d is))
  one_of q e es o false d is = refl

  get-insert_all : (m : FinMap R X) (es : List (K × V)) (q : K) → IsDistinct (eq_by_cmp R) (keys_of es)
      → map.get (insert_all m es) q ≡ or_else (option_map f (lookup (eq_by_cmp R q) es)) (map.get m q)
  get-insert_all m [] q d = refl
  get-insert_all m (e ∷ es) q d =
      get-insert_all (map.insert m e.0 (f e.1)) es q (IsDistinct-tail (eq_by_cmp R) e.0 (keys_of es) d)
      ∙ ap (or_else (option_map f (lookup (eq_by_cmp R q) es))) (map.get-insert total m e.0 (f e.1) q)
      ∙ one_of q e es (map.get m q) (eq_by_cmp R q e.0) d refl

  all_kept : (es : List (K × V)) → IsStrictlySortedBy R (keys_of es) → insert_all map.empty es ≡ kept_as R f es
  all_kept es h =
      map.same_map total exact _ _ (λ q.
      get-insert_all map.empty es q (IsDistinct-from_sorted R (keys_of es) h)
      ∙ ap (or_else (option_map f (lookup (eq_by_cmp R q) es))) (map.get-empty R q)
      ∙ or_none (option_map f (lookup (eq_by_cmp R q) es)) ∙ sym (get-kept total exact f es q))

-- ---- uploads

abbrev put_upload : List ℕ × ClaimedUpload → List Change
put_upload e = upload_changes (upload_row e)

uploads_put : (c : Claims) (m : Table Upload) (es : List (List ℕ × ClaimedUpload))
    → fold (with_uploads c m) (flat_map put_upload es)
    ≡ with_uploads c (insert_all nat_list_cmp_total keys_exact upload_of m es)
uploads_put c m [] = refl
uploads_put c m (e ∷ es) =
    ap (fold (with_uploads c m)) (flat_map-cons put_upload e es)
    ∙ fold-append (with_uploads c m) (put_upload e) (flat_map put_upload es)
    ∙ ap (λ d. fold d (flat_map put_upload es))
    (bodies_folded c m e.0 e.1.name e.1.seen 0 [] e.1.bodies.items refl)
    ∙ uploads_put c (map.insert m e.0 (upload_of e.1)) es

pub uploads_saved : (old new : List Change) (es : List (List ℕ × ClaimedUpload))
    → IsStrictlySortedBy bytes_cmp (keys_of es) → new ≡ old ++ flat_map (λ e. upload_changes (upload_row e)) es
    → SavesUploads old new (kept_as bytes_cmp upload_of es)
uploads_saved old new es h is c none =
    ap (fold c) is ∙ fold-append c old (flat_map put_upload es)
    ∙ ap (λ m. fold (with_uploads (fold c old) m) (flat_map put_upload es)) none
    ∙ uploads_put (fold c old) map.empty es
    ∙ ap (with_uploads (fold c old)) (all_kept nat_list_cmp_total keys_exact upload_of es h)

-- ---- blobs

abbrev put_blob : Digest × ClaimedBlob → List Change
put_blob e = blob_changes (blob_row e)

blobs_put : (c : Claims) (m : FinMap digest_cmp (List Stretch)) (es : List (Digest × ClaimedBlob))
    → fold (with_blobs c m) (flat_map put_blob es) ≡ with_blobs c (insert_all digests_total digests_exact blob_of m es)
blobs_put c m [] = refl
blobs_put c m (e ∷ es) =
    ap (fold (with_blobs c m)) (flat_map-cons put_blob e es)
    ∙ fold-append (with_blobs c m) (put_blob e) (flat_map put_blob es)
    ∙ ap (λ d. fold d (flat_map put_blob es)) (joins_folded c m e.0 0 [] e.1.bodies.items refl)
    ∙ blobs_put c (map.insert m e.0 (blob_of e.1)) es

pub blobs_saved : (old new : List Change) (es : List (Digest × ClaimedBlob))
    → IsStrictlySortedBy digest_cmp (keys_of es) → new ≡ old ++ flat_map (λ e. blob_changes (blob_row e)) es
    → SavesBlobs old new (kept_as digest_cmp blob_of es)
blobs_saved old new es h is c none =
    ap (fold c) is ∙ fold-append c old (flat_map put_blob es)
    ∙ ap (λ m. fold (with_blobs (fold c old) m) (flat_map put_blob es)) none
    ∙ blobs_put (fold c old) map.empty es
    ∙ ap (with_blobs (fold c old)) (all_kept digests_total digests_exact blob_of es h)

-- ---- pairs

abbrev insert_each : FinSet pair_cmp → List (List ℕ × Digest) → FinSet pair_cmp
insert_each s [] = s
insert_each s (p ∷ ps) = insert_each (set.insert s p) ps

pairs_put : (c : Claims) (s : FinSet pair_cmp) (ps : List (List ℕ × Digest))
    → fold (with_pairs c s) (flat_map pair_changes ps) ≡ with_pairs c (insert_each s ps)
pairs_put c s [] = refl
pairs_put c s (p ∷ ps) =
    ap (fold (with_pairs c s)) (flat_map-cons pair_changes p ps) ∙ pairs_put c (set.insert s p) ps

moved : (a b e : Bool) → (b || (a || e)) ≡ ((a || b) || e)
moved true true e = refl
moved true false e = refl
moved false b e = refl

contains-each : (s : FinSet pair_cmp) (ps : List (List ℕ × Digest)) (q : List ℕ × Digest)
    → set.contains (insert_each s ps) q ≡ (list_any (eq_by_cmp pair_cmp q) ps || set.contains s q)
contains-each s [] q = refl
contains-each s (p ∷ ps) q =
    contains-each (set.insert s p) ps q
    ∙ ap (λ b. list_any (eq_by_cmp pair_cmp q) ps || b) (set.contains-insert pairs_total s p q)
    ∙ moved (eq_by_cmp pair_cmp q p) (list_any (eq_by_cmp pair_cmp q) ps) (set.contains s q)

or_false : (b : Bool) → (b || false) ≡ b
or_false true = refl
or_false false = refl

each_listed : (ps : List (List ℕ × Digest)) → insert_each set.empty ps ≡ set.from_list ps
each_listed ps =
    set.same_set pairs_total pairs_exact _ _ (λ q.
    contains-each set.empty ps q
    ∙ ap (λ b. list_any (eq_by_cmp pair_cmp q) ps || b) (set.contains-empty pair_cmp q)
    ∙ or_false (list_any (eq_by_cmp pair_cmp q) ps) ∙ sym (set.contains-from_list pairs_total ps q))

pub pairs_saved : (old new : List Change) (ps : List (List ℕ × Digest)) → new ≡ old ++ flat_map pair_changes ps
    → SavesPairs old new (set.from_list ps)
pairs_saved old new ps is c none =
    ap (fold c) is ∙ fold-append c old (flat_map pair_changes ps)
    ∙ ap (λ s. fold (with_pairs (fold c old) s) (flat_map pair_changes ps)) none
    ∙ pairs_put (fold c old) set.empty ps ∙ ap (with_pairs (fold c old)) (each_listed ps)
