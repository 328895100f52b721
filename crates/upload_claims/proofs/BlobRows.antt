-- What changes of the rows do to the table of blobs that they stand for.
use Rattle.std.proofs.Common.{◌≡◌, ℕ, Bool, true, false, cond, List, [], ◌∷◌, ◌++◌, Option, Some, None, refl, sym, ◌∙◌}
use Rattle.std.proofs.Common.{ap, subst, true≢false}
use Rattle.std.specs.Prelude.{IsSome, Result, Ok, Err, OnErr}
use Rattle.std.specs.Option.{option_map}
use Rattle.std.specs.Map.{lookup}
use Rattle.std.specs.FinMap as map
use Rattle.std.specs.FinMap.{FinMap}
use Rattle.upload_names.specs.Digest.{Digest, digest_cmp}
use Rattle.upload_service.specs.Machine.{same_digest}
use Rattle.upload_service.specs.Kept.Entries.{kept_as}
use Rattle.upload_service.proofs.Keeping.Kept.{get-kept, tied_flips}
use Rattle.upload_service.proofs.Keeping.Tables.{digests_total, digests_exact, eq_from_same_digest}
use Rattle.upload_claims.specs.declared.change.Stretch.{Stretch}
use Rattle.upload_claims.specs.declared.blobs.ClaimedBlob.{ClaimedBlob}
use Rattle.upload_claims.specs.Fold.{grown, with_claim}
use Rattle.upload_claims.specs.Kept.{blob_of, joins_from, with_one_more}

pub on_err : {A E : Type 0} (r : Result A E) {P : Type 0} → P → OnErr r P
on_err (Ok x) p = tt
on_err (Err e) p = p

abbrev Rows : Type 0
Rows = List (Digest × ClaimedBlob)

abbrev pub BlobTable : Type 0
BlobTable = FinMap digest_cmp (List Stretch)

abbrev pub table : Rows → BlobTable
table es = kept_as digest_cmp blob_of es

get-table : (es : Rows) (q : Digest) → map.get (table es) q ≡ option_map blob_of (lookup (same_digest q) es)
get-table es q = get-kept digests_total digests_exact blob_of es q

pub not_grown : (o : Option ClaimedBlob) (from : ℕ) (s : Stretch) → joins_from o from ≡ false
    → grown (option_map blob_of o) from s ≡ None
not_grown None from s e = refl
not_grown (Some b) from s e = ap (λ t. cond t (Some (b.bodies.items ++ s ∷ [])) None) e

is_grown : (o : Option ClaimedBlob) (from : ℕ) (s : Stretch) → joins_from o from ≡ true
    → grown (option_map blob_of o) from s ≡ with_one_more (option_map blob_of o) s
is_grown None from s e = refl
is_grown (Some b) from s e = ap (λ t. cond t (Some (b.bodies.items ++ s ∷ [])) None) e

pub grown_of : (es : Rows) (m : BlobTable) → table es ≡ m → (digest : Digest) (from : ℕ) (s : Stretch)
    → grown (map.get m digest) from s ≡ grown (option_map blob_of (lookup (same_digest digest) es)) from s
grown_of es m e digest from s =
    ap (λ n. grown (map.get n digest) from s) (sym e) ∙ ap (λ o. grown o from s) (get-table es digest)

pub written : (es fs : Rows) (digest : Digest) (x : List Stretch)
    → ((q : Digest) → option_map blob_of (lookup (same_digest q) fs)
    ≡ cond (same_digest digest q) (Some x) (option_map blob_of (lookup (same_digest q) es)))
    → table fs ≡ map.insert (table es) digest x
written es fs digest x h =
    map.same_map digests_total digests_exact (table fs) (map.insert (table es) digest x) (λ q.
    get-table fs q ∙ h q
    ∙ ap (λ b. cond b (Some x) (option_map blob_of (lookup (same_digest q) es))) (tied_flips digests_total digest q)
    ∙ sym (map.get-insert digests_total (table es) digest x q
    ∙ ap (cond (same_digest q digest) (Some x)) (get-table es q)))

pub join_pushed : (es fs : Rows) (digest : Digest) (from : ℕ) (s : Stretch)
    → joins_from (lookup (same_digest digest) es) from ≡ true
    → ((q : Digest) → option_map blob_of (lookup (same_digest q) fs)
    ≡ cond (same_digest digest q) (with_one_more (option_map blob_of (lookup (same_digest digest) es)) s)
    (option_map blob_of (lookup (same_digest q) es)))
    → table fs ≡ with_claim (table es) digest (grown (map.get (table es) digest) from s)
join_pushed es fs digest from s t h =
    by_row (lookup (same_digest digest) es) refl t
    ∙ sym (ap (λ o. with_claim (table es) digest (grown o from s)) (get-table es digest))
  where
    by_row : (o : Option ClaimedBlob) → lookup (same_digest digest) es ≡ o → joins_from o from ≡ true
        → table fs
        ≡ with_claim (table es) digest (grown (option_map blob_of (lookup (same_digest digest) es)) from s)
    by_row None e r = absurd (true≢false (sym r))
    by_row (Some b) e r =
        written es fs digest (b.bodies.items ++ s ∷ []) (λ q.
        h q ∙ ap (λ o. cond (same_digest digest q) (with_one_more (option_map blob_of o) s)
        (option_map blob_of (lookup (same_digest q) es))) e)
        ∙ sym (ap (λ o. with_claim (table es) digest (grown (option_map blob_of o) from s)) e
        ∙ ap (with_claim (table es) digest) (is_grown (Some b) from s r))

pub row_there : (es : Rows) (m : BlobTable) → table es ≡ m → (digest : Digest) → IsSome (map.get m digest)
    → IsSome (lookup (same_digest digest) es)
row_there es m e digest there =
    by_row (lookup (same_digest digest) es)
    (subst IsSome (ap (λ n. map.get n digest) (sym e) ∙ get-table es digest) there)
  where
    by_row : (o : Option ClaimedBlob) → IsSome (option_map blob_of o) → IsSome o
    by_row None h = h
    by_row (Some b) h = refl

pub same_row : (es fs : Rows) (digest : Digest) (b d : ClaimedBlob) → Some b ≡ lookup (same_digest digest) es
    → blob_of d ≡ blob_of b
    → ((q : Digest) → lookup (same_digest q) fs ≡ cond (same_digest digest q) (Some d) (lookup (same_digest q) es))
    → (q : Digest) → option_map blob_of (lookup (same_digest q) fs) ≡ option_map blob_of (lookup (same_digest q) es)
same_row es fs digest b d is e h q = ap (option_map blob_of) (h q) ∙ by_key (same_digest digest q) refl
  where
    by_key : (t : Bool) → same_digest digest q ≡ t
        → option_map blob_of (cond t (Some d) (lookup (same_digest q) es))
        ≡ option_map blob_of (lookup (same_digest q) es)
    by_key true t =
        ap (λ w. Some w) e
        ∙ ap (option_map blob_of) (is ∙ ap (λ k. lookup (same_digest k) es) (eq_from_same_digest digest q t))
    by_key false t = refl
