-- What a lost record takes with it.
use Rattle.std.proofs.Common.{◌≡◌, ◌≢◌, ℕ, Bool, true, false, cond, List, [], ◌∷◌, ◌++◌, Option, Some, None, refl, sym}
use Rattle.std.proofs.Common.{◌∙◌, ap, subst, true≢false}
use Rattle.std.specs.Prelude.{◌||◌, ◌&&◌, nat_lt}
use Rattle.std.specs.List.{AllByRecursion}
use Rattle.std.specs.Ordering.{eq_by_cmp}
use Rattle.std.specs.Cmp.Lexicographic.{nat_list_cmp_total}
use Rattle.std.specs.FinMap as map
use Rattle.std.specs.FinMap.{FinMap}
use Rattle.std.specs.FinSet as set
use Rattle.upload_names.specs.Digest.{Digest, digest_cmp}
use Rattle.upload_service.specs.Machine.{Table, same, same_digest, pair_cmp}
use Rattle.upload_service.proofs.Steps.{None≢Some}
use Rattle.upload_service.proofs.Keeping.Tables.{digests_total, pairs_total, eq_from_same, eq_from_same_digest}
use Rattle.upload_service.proofs.Keeping.Tables.{pair_from_same}
use Rattle.upload_claims.specs.declared.change.Stretch.{Stretch}
use Rattle.upload_claims.specs.declared.change.Change.{Change}
use Rattle.upload_claims.specs.declared.change.Change.TheVariants as changes
use Rattle.upload_claims.specs.Claims.{Upload, Claims}
use Rattle.upload_claims.specs.Fold.{taken, seen_at, closed, grown, with_claim, with_any, unless_before, apply, fold}
use Rattle.upload_claims.specs.Lost.{names, touches, stores, any, rests_on, without, whole, OnlyItsOwnIsLost}
use Rattle.upload_claims.proofs.Steps.{get-seen_from}
use Rattle.upload_claims.proofs.Folding.{fold-append}

-- ---- uploads

get-with_claim : (m : Table Upload) (k : List ℕ) (o : Option Upload) (q : List ℕ)
    → map.get (with_claim m k o) q ≡ cond (same q k) o (map.get m q)
get-with_claim m k None q = map.get-remove nat_list_cmp_total m k q
get-with_claim m k (Some u) q = map.get-insert nat_list_cmp_total m k u q

seen_or_none : (m : Table Upload) (k q : List ℕ) (now : ℕ) (o : Option Upload) (b : Bool) → map.get m k ≡ o
    → same q k ≡ b → cond b (seen_at o now) (map.get m q) ≡ map.get (with_any m k (seen_at o now)) q
seen_or_none m k q now (Some u) b e s =
    ap (λ t. cond t (Some (record u { seen = now })) (map.get m q)) (sym s)
    ∙ sym (map.get-insert nat_list_cmp_total m k (record u { seen = now }) q)
seen_or_none m k q now None true e s = sym e ∙ ap (map.get m) (sym (eq_from_same q k s))
seen_or_none m k q now None false e s = refl

abbrev upload_at : Claims → List ℕ → Option Upload
upload_at c at = map.get c.uploads at

abbrev begun : List ℕ → ℕ → Upload
begun name now = record { name = name; bodies = []; seen = now }

-- what a change leaves under a reference, by what was there
abbrev left_at : Change → List ℕ → Option Upload → Option Upload
left_at (changes.LapsedBefore moment) at o = unless_before moment o
left_at (changes.Began to name now) at o = cond (same at to) (Some (begun name now)) o
left_at (changes.Took to now from b) at o = cond (same at to) (taken o now from b) o
left_at (changes.Seen to now) at o = cond (same at to) (seen_at o now) o
left_at (changes.Closed to digest end) at o = cond (same at to) None o
left_at other at o = o

at_itself : (f : Option Upload → Option Upload) (m : Table Upload) (at to : List ℕ) (b : Bool) → same at to ≡ b
    → cond b (f (map.get m to)) (map.get m at) ≡ cond b (f (map.get m at)) (map.get m at)
at_itself f m at to true e = ap (λ k. f (map.get m k)) (sym (eq_from_same at to e))
at_itself f m at to false e = refl

upload_after : (y : Change) (c : Claims) (at : List ℕ) → upload_at (apply c y) at ≡ left_at y at (upload_at c at)
upload_after (changes.NumbersUpTo n) c at = refl
upload_after (changes.MomentsUpTo m) c at = refl
upload_after (changes.LapsedBefore moment) c at = get-seen_from moment c.uploads at
upload_after (changes.Began to name now) c at = map.get-insert nat_list_cmp_total c.uploads to (begun name now) at
upload_after (changes.Took to now from b) c at =
    get-with_claim c.uploads to (taken (map.get c.uploads to) now from b) at
    ∙ at_itself (λ o. taken o now from b) c.uploads at to (same at to) refl
upload_after (changes.Seen to now) c at =
    sym (seen_or_none c.uploads to at now (map.get c.uploads to) (same at to) refl refl)
    ∙ at_itself (λ o. seen_at o now) c.uploads at to (same at to) refl
upload_after (changes.Closed to digest end) c at = map.get-remove nat_list_cmp_total c.uploads to at
upload_after (changes.Stored digest b) c at = refl
upload_after (changes.Laid digest) c at = refl
upload_after (changes.Joined digest from b) c at = refl
upload_after (changes.Has name digest) c at = refl

untouched : (y : Change) (at : List ℕ) (o : Option Upload) → touches y at ≡ false → left_at y at o ≡ o
untouched (changes.NumbersUpTo n) at o e = refl
untouched (changes.MomentsUpTo m) at o e = refl
untouched (changes.LapsedBefore moment) at o e = absurd (true≢false e)
untouched (changes.Began to name now) at o e = ap (λ b. cond b (Some (begun name now)) o) e
untouched (changes.Took to now from s) at o e = ap (λ b. cond b (taken o now from s) o) e
untouched (changes.Seen to now) at o e = ap (λ b. cond b (seen_at o now) o) e
untouched (changes.Closed to digest end) at o e = ap (λ b. cond b None o) e
untouched (changes.Stored digest s) at o e = refl
untouched (changes.Laid digest) at o e = refl
untouched (changes.Joined digest from s) at o e = refl
untouched (changes.Has name digest) at o e = refl

upload_stays : (y : Change) (c d : Claims) (at : List ℕ) → upload_at c at ≡ upload_at d at
    → upload_at (apply c y) at ≡ upload_at (apply d y) at
upload_stays y c d at h = upload_after y c at ∙ ap (left_at y at) h ∙ sym (upload_after y d at)

uploads_stay : (ys : List Change) (c d : Claims) (at : List ℕ) → upload_at c at ≡ upload_at d at
    → upload_at (fold c ys) at ≡ upload_at (fold d ys) at
uploads_stay [] c d at h = h
uploads_stay (y ∷ ys) c d at h = uploads_stay ys (apply c y) (apply d y) at (upload_stays y c d at h)

neither : (a b : Bool) → (a || b) ≡ false → (a ≡ false) × (b ≡ false)
neither true b e = absurd (true≢false e)
neither false b e = (refl, e)

uploads_kept : (lost : List Change) (c : Claims) (at : List ℕ) → any (λ x. touches x at) lost ≡ false
    → upload_at c at ≡ upload_at (fold c lost) at
uploads_kept [] c at e = refl
uploads_kept (x ∷ xs) c at e =
    let (here, later) = neither (touches x at) (any (λ y. touches y at) xs) e in
    sym (upload_after x c at ∙ untouched x at (upload_at c at) here) ∙ uploads_kept xs (apply c x) at later

-- ---- a sweep that is lost

-- what is there is there too, and is the same
abbrev Within : Option Upload → Option Upload → Type 0
Within None p = Unit {0}
Within (Some u) p = p ≡ Some u

within_itself : (o : Option Upload) → Within o o
within_itself None = tt
within_itself (Some u) = refl

left_within : (y : Change) (at : List ℕ) (o p : Option Upload) → Within o p → Within (left_at y at o) (left_at y at p)
left_within y at (Some u) p h = subst (λ q. Within (left_at y at (Some u)) (left_at y at q)) (sym h) (within_itself _)
left_within (changes.NumbersUpTo n) at None p h = tt
left_within (changes.MomentsUpTo m) at None p h = tt
left_within (changes.LapsedBefore moment) at None p h = tt
left_within (changes.Began to name now) at None p h =
    elim (same at to) as (λ b. Within (cond b (Some (begun name now)) None) (cond b (Some (begun name now)) p)) [
      | true ↦ refl
      | false ↦ tt
    ]
left_within (changes.Took to now from s) at None p h =
    elim (same at to) as (λ b. Within (cond b None None) (cond b (taken p now from s) p)) [ true ↦ tt | false ↦ tt ]
left_within (changes.Seen to now) at None p h =
    elim (same at to) as (λ b. Within (cond b None None) (cond b (seen_at p now) p)) [ true ↦ tt | false ↦ tt ]
left_within (changes.Closed to digest end) at None p h =
    elim (same at to) as (λ b. Within (cond b None None) (cond b None p)) [ true ↦ tt | false ↦ tt ]
left_within (changes.Stored digest s) at None p h = tt
left_within (changes.Laid digest) at None p h = tt
left_within (changes.Joined digest from s) at None p h = tt
left_within (changes.Has name digest) at None p h = tt

within_stays : (y : Change) (c d : Claims) (at : List ℕ) → Within (upload_at c at) (upload_at d at)
    → Within (upload_at (apply c y) at) (upload_at (apply d y) at)
within_stays y c d at h =
    subst (λ o. Within o (upload_at (apply d y) at)) (sym (upload_after y c at))
    (subst (λ p. Within (left_at y at (upload_at c at)) p) (sym (upload_after y d at))
    (left_within y at (upload_at c at) (upload_at d at) h))

all_within : (ys : List Change) (c d : Claims) (at : List ℕ) → Within (upload_at c at) (upload_at d at)
    → Within (upload_at (fold c ys) at) (upload_at (fold d ys) at)
all_within [] c d at h = h
all_within (y ∷ ys) c d at h = all_within ys (apply c y) (apply d y) at (within_stays y c d at h)

swept_within : (moment : ℕ) (o : Option Upload) → Within (unless_before moment o) o
swept_within moment None = tt
swept_within moment (Some u) =
    elim (nat_lt u.seen moment) as (λ b. Within (cond b None (Some u)) (Some u)) [ true ↦ tt | false ↦ refl ]

from_within : (o p : Option Upload) (u : Upload) → Within o p → o ≡ Some u → p ≡ Some u
from_within None p u h e = absurd (None≢Some e)
from_within (Some v) p u h e = h ∙ e

still : (y : Change) (at : List ℕ) (o : Option Upload) → touches y at ≡ false → Within (left_at y at o) o
still y at o e = subst (λ p. Within p o) (sym (untouched y at o e)) (within_itself o)

-- a change that doesn't name an upload leaves it, or is a sweep
unnamed_within : (y : Change) (at : List ℕ) (o : Option Upload) → names y at ≡ false → Within (left_at y at o) o
unnamed_within (changes.LapsedBefore moment) at o e = swept_within moment o
unnamed_within (changes.NumbersUpTo n) at o e = within_itself o
unnamed_within (changes.MomentsUpTo m) at o e = within_itself o
unnamed_within (changes.Began to name now) at o e = still (changes.Began to name now) at o e
unnamed_within (changes.Took to now from s) at o e = still (changes.Took to now from s) at o e
unnamed_within (changes.Seen to now) at o e = still (changes.Seen to now) at o e
unnamed_within (changes.Closed to digest end) at o e = still (changes.Closed to digest end) at o e
unnamed_within (changes.Stored digest s) at o e = within_itself o
unnamed_within (changes.Laid digest) at o e = within_itself o
unnamed_within (changes.Joined digest from s) at o e = within_itself o
unnamed_within (changes.Has name digest) at o e = within_itself o

within_all : (o p r : Option Upload) → Within o p → Within p r → Within o r
within_all None p r h k = tt
within_all (Some u) p r h k = from_within p r u k h

lost_within : (lost : List Change) (c : Claims) (at : List ℕ) → any (λ x. names x at) lost ≡ false
    → Within (upload_at (fold c lost) at) (upload_at c at)
lost_within [] c at e = within_itself (upload_at c at)
lost_within (x ∷ xs) c at e =
    let (here, later) = neither (names x at) (any (λ y. names y at) xs) e in
    within_all (upload_at (fold (apply c x) xs) at) (upload_at (apply c x) at) (upload_at c at)
    (lost_within xs (apply c x) at later)
    (subst (λ o. Within o (upload_at c at)) (sym (upload_after x c at)) (unnamed_within x at (upload_at c at) here))

-- ---- blobs

abbrev blob_at : Claims → Digest → Option (List Stretch)
blob_at c q = map.get c.blobs q

abbrev or_had : Option (List Stretch) → Option (List Stretch) → Option (List Stretch)
or_had None had = had
or_had (Some bodies) had = Some bodies

either : (b : Bool) (o : Option (List Stretch)) → o ≡ cond b o o
either true o = refl
either false o = refl

get-with_any : (m : FinMap digest_cmp (List Stretch)) (k : Digest) (o : Option (List Stretch)) (q : Digest)
    → map.get (with_any m k o) q ≡ cond (same_digest q k) (or_had o (map.get m q)) (map.get m q)
get-with_any m k None q = either (same_digest q k) (map.get m q)
get-with_any m k (Some bodies) q = map.get-insert digests_total m k bodies q

get-blob_claim : (m : FinMap digest_cmp (List Stretch)) (k : Digest) (o : Option (List Stretch)) (q : Digest)
    → map.get (with_claim m k o) q ≡ cond (same_digest q k) o (map.get m q)
get-blob_claim m k None q = map.get-remove digests_total m k q
get-blob_claim m k (Some bodies) q = map.get-insert digests_total m k bodies q

-- what a change leaves under a digest, by what was there, and for a close by the upload that is closed
abbrev stored_at : Change → Digest → (List ℕ → Option Upload) → Option (List Stretch) → Option (List Stretch)
stored_at (changes.Closed to digest end) q uploads o =
    cond (same_digest q digest) (or_had (closed (uploads to) end) o) o
stored_at (changes.Stored digest b) q uploads o = cond (same_digest q digest) (Some (b ∷ [])) o
stored_at (changes.Laid digest) q uploads o = cond (same_digest q digest) (Some []) o
stored_at (changes.Joined digest from b) q uploads o = cond (same_digest q digest) (grown o from b) o
stored_at other q uploads o = o

at_same_digest : (f : Option (List Stretch) → Option (List Stretch)) (m : FinMap digest_cmp (List Stretch))
    (q k : Digest) (b : Bool) → same_digest q k ≡ b
    → cond b (f (map.get m k)) (map.get m q) ≡ cond b (f (map.get m q)) (map.get m q)
at_same_digest f m q k true e = ap (λ d. f (map.get m d)) (sym (eq_from_same_digest q k e))
at_same_digest f m q k false e = refl

blob_after : (y : Change) (c : Claims) (q : Digest)
    → blob_at (apply c y) q ≡ stored_at y q (upload_at c) (blob_at c q)
blob_after (changes.NumbersUpTo n) c q = refl
blob_after (changes.MomentsUpTo m) c q = refl
blob_after (changes.LapsedBefore moment) c q = refl
blob_after (changes.Began to name now) c q = refl
blob_after (changes.Took to now from b) c q = refl
blob_after (changes.Seen to now) c q = refl
blob_after (changes.Closed to digest end) c q =
    get-with_any c.blobs digest (closed (map.get c.uploads to) end) q
blob_after (changes.Stored digest b) c q = map.get-insert digests_total c.blobs digest (b ∷ []) q
blob_after (changes.Laid digest) c q = map.get-insert digests_total c.blobs digest [] q
blob_after (changes.Joined digest from b) c q =
    get-blob_claim c.blobs digest (grown (map.get c.blobs digest) from b) q
    ∙ at_same_digest (λ o. grown o from b) c.blobs q digest (same_digest q digest) refl
blob_after (changes.Has name digest) c q = refl

not_stored : (y : Change) (q : Digest) (uploads : List ℕ → Option Upload) (o : Option (List Stretch))
    → stores y q ≡ false → stored_at y q uploads o ≡ o
not_stored (changes.NumbersUpTo n) q uploads o e = refl
not_stored (changes.MomentsUpTo m) q uploads o e = refl
not_stored (changes.LapsedBefore moment) q uploads o e = refl
not_stored (changes.Began to name now) q uploads o e = refl
not_stored (changes.Took to now from s) q uploads o e = refl
not_stored (changes.Seen to now) q uploads o e = refl
not_stored (changes.Closed to digest end) q uploads o e =
    ap (λ b. cond b (or_had (closed (uploads to) end) o) o) e
not_stored (changes.Stored digest s) q uploads o e = ap (λ b. cond b (Some (s ∷ [])) o) e
not_stored (changes.Laid digest) q uploads o e = ap (λ b. cond b (Some []) o) e
not_stored (changes.Joined digest from s) q uploads o e = ap (λ b. cond b (grown o from s) o) e
not_stored (changes.Has name digest) q uploads o e = refl

-- claims that are alike but for the uploads that the lost changes touch
record Alike (lost : List Change) (q : Digest) (c d : Claims) : Type 0 where
  uploads : (at : List ℕ) → any (λ x. touches x at) lost ≡ false → upload_at c at ≡ upload_at d at
  blob : blob_at c q ≡ blob_at d q

closed_alike : (lost : List Change) (q : Digest) (c d : Claims) (to : List ℕ) (end : ℕ) (o : Option (List Stretch))
    (b t : Bool) → Alike lost q c d → any (λ x. touches x to) lost ≡ t → (t && b) ≡ false
    → cond b (or_had (closed (upload_at c to) end) o) o ≡ cond b (or_had (closed (upload_at d to) end) o) o
closed_alike lost q c d to end o false t h e r = refl
closed_alike lost q c d to end o true true h e r = absurd (true≢false r)
closed_alike lost q c d to end o true false h e r = ap (λ u. or_had (closed u end) o) (h.uploads to e)

stored_alike : (y : Change) (lost : List Change) (q : Digest) (c d : Claims) (o : Option (List Stretch)) → Alike lost q c d
    → rests_on lost q y ≡ false → stored_at y q (upload_at c) o ≡ stored_at y q (upload_at d) o
stored_alike (changes.NumbersUpTo n) lost q c d o h e = refl
stored_alike (changes.MomentsUpTo m) lost q c d o h e = refl
stored_alike (changes.LapsedBefore moment) lost q c d o h e = refl
stored_alike (changes.Began to name now) lost q c d o h e = refl
stored_alike (changes.Took to now from s) lost q c d o h e = refl
stored_alike (changes.Seen to now) lost q c d o h e = refl
stored_alike (changes.Closed to digest end) lost q c d o h e =
    closed_alike lost q c d to end o (same_digest q digest) (any (λ x. touches x to) lost) h refl e
stored_alike (changes.Stored digest s) lost q c d o h e = refl
stored_alike (changes.Laid digest) lost q c d o h e = refl
stored_alike (changes.Joined digest from s) lost q c d o h e = refl
stored_alike (changes.Has name digest) lost q c d o h e = refl

alike_stays : (y : Change) (lost : List Change) (q : Digest) (c d : Claims) → Alike lost q c d → rests_on lost q y ≡ false
    → Alike lost q (apply c y) (apply d y)
alike_stays y lost q c d h e = record {
  uploads = λ at t. upload_stays y c d at (h.uploads at t);
  blob =
      blob_after y c q ∙ stored_alike y lost q c d (blob_at c q) h e ∙ ap (stored_at y q (upload_at d)) h.blob
      ∙ sym (blob_after y d q);
}

all_alike : (ys lost : List Change) (q : Digest) (c d : Claims) → Alike lost q c d
    → AllByRecursion (λ y. rests_on lost q y ≡ false) ys → Alike lost q (fold c ys) (fold d ys)
all_alike [] lost q c d h e = h
all_alike (y ∷ ys) lost q c d h e = all_alike ys lost q (apply c y) (apply d y) (alike_stays y lost q c d h e.0) e.1

blob_kept : (lost : List Change) (q : Digest) (c : Claims) → any (λ x. stores x q) lost ≡ false
    → blob_at c q ≡ blob_at (fold c lost) q
blob_kept [] q c e = refl
blob_kept (x ∷ xs) q c e =
    let (here, later) = neither (stores x q) (any (λ y. stores y q) xs) e in
    sym (blob_after x c q ∙ not_stored x q (upload_at c) (blob_at c q) here) ∙ blob_kept xs q (apply c x) later

lost_alike : (lost : List Change) (q : Digest) (c : Claims) → any (λ x. stores x q) lost ≡ false
    → Alike lost q c (fold c lost)
lost_alike lost q c e = record { uploads = λ at t. uploads_kept lost c at t; blob = blob_kept lost q c e }

-- ---- pairs

abbrev has_pair : Claims → List ℕ × Digest → Bool
has_pair c p = set.contains c.pairs p

-- whether it is this pair that a change notes
abbrev notes : Change → List ℕ × Digest → Bool
notes (changes.Has name digest) p = eq_by_cmp pair_cmp p (name, digest)
notes other p = false

pair_after : (y : Change) (c : Claims) (p : List ℕ × Digest) → has_pair (apply c y) p ≡ (notes y p || has_pair c p)
pair_after (changes.NumbersUpTo n) c p = refl
pair_after (changes.MomentsUpTo m) c p = refl
pair_after (changes.LapsedBefore moment) c p = refl
pair_after (changes.Began to name now) c p = refl
pair_after (changes.Took to now from s) c p = refl
pair_after (changes.Seen to now) c p = refl
pair_after (changes.Closed to digest end) c p = refl
pair_after (changes.Stored digest s) c p = refl
pair_after (changes.Laid digest) c p = refl
pair_after (changes.Joined digest from s) c p = refl
pair_after (changes.Has name digest) c p = set.contains-insert pairs_total c.pairs (name, digest) p

pairs_stay : (ys : List Change) (c d : Claims) (p : List ℕ × Digest) → has_pair c p ≡ has_pair d p
    → has_pair (fold c ys) p ≡ has_pair (fold d ys) p
pairs_stay [] c d p h = h
pairs_stay (y ∷ ys) c d p h =
    pairs_stay ys (apply c y) (apply d y) p
    (pair_after y c p ∙ ap (λ b. notes y p || b) h ∙ sym (pair_after y d p))

not_noted : (y : Change) (name : List ℕ) (digest : Digest) → y ≢ changes.Has name digest
    → notes y (name, digest) ≡ false
not_noted (changes.NumbersUpTo n) name digest h = refl
not_noted (changes.MomentsUpTo m) name digest h = refl
not_noted (changes.LapsedBefore moment) name digest h = refl
not_noted (changes.Began to other now) name digest h = refl
not_noted (changes.Took to now from s) name digest h = refl
not_noted (changes.Seen to now) name digest h = refl
not_noted (changes.Closed to other end) name digest h = refl
not_noted (changes.Stored other s) name digest h = refl
not_noted (changes.Laid other) name digest h = refl
not_noted (changes.Joined other from s) name digest h = refl
not_noted (changes.Has name' digest') name digest h =
    elim (eq_by_cmp pair_cmp (name, digest) (name', digest')) as (λ b.
    eq_by_cmp pair_cmp (name, digest) (name', digest') ≡ b → b ≡ false) [
      | true ↦ λ e. absurd (h (ap (λ p. changes.Has p.0 p.1) (sym (pair_from_same (name, digest) (name', digest') e))))
      | false ↦ λ e. refl
    ] refl

implied : (a b : Bool) → b ≡ true → (a || b) ≡ true
implied true b e = refl
implied false b e = e

more_pairs : (ys : List Change) (c d : Claims) (p : List ℕ × Digest) → (has_pair c p ≡ true → has_pair d p ≡ true)
    → has_pair (fold c ys) p ≡ true → has_pair (fold d ys) p ≡ true
more_pairs [] c d p h = h
more_pairs (y ∷ ys) c d p h =
    more_pairs ys (apply c y) (apply d y) p
    (λ e. pair_after y d p ∙ still (notes y p) (has_pair c p) (has_pair d p) h (sym (pair_after y c p) ∙ e))
  where
    still : (a b e : Bool) → (b ≡ true → e ≡ true) → (a || b) ≡ true → (a || e) ≡ true
    still true b e f g = refl
    still false b e f g = f g

pairs_kept : (lost : List Change) (c : Claims) (name : List ℕ) (digest : Digest)
    → AllByRecursion (λ x. x ≢ changes.Has name digest) lost
    → has_pair c (name, digest) ≡ has_pair (fold c lost) (name, digest)
pairs_kept [] c name digest e = refl
pairs_kept (x ∷ xs) c name digest e =
    sym (pair_after x c (name, digest) ∙ ap (λ b. b || has_pair c (name, digest)) (not_noted x name digest e.0))
    ∙ pairs_kept xs (apply c x) name digest e.1

pairs_grow : (lost : List Change) (c : Claims) (p : List ℕ × Digest) → has_pair c p ≡ true
    → has_pair (fold c lost) p ≡ true
pairs_grow [] c p e = e
pairs_grow (x ∷ xs) c p e =
    pairs_grow xs (apply c x) p (pair_after x c p ∙ implied (notes x p) (has_pair c p) e)

-- ---- all

module _ (c : Claims) (front lost rest : List Change) where
  without_is : without c front lost rest ≡ fold (fold c front) rest
  without_is = fold-append c front rest

  whole_is : whole c front lost rest ≡ fold (fold (fold c front) lost) rest
  whole_is = fold-append c front (lost ++ rest) ∙ fold-append (fold c front) lost rest

pub only_its_own_is_lost : OnlyItsOwnIsLost
only_its_own_is_lost = record {
  uploads = λ c front lost rest at e.
      ap (λ d. upload_at d at) (without_is c front lost rest)
      ∙ uploads_stay rest (fold c front) (fold (fold c front) lost) at (uploads_kept lost (fold c front) at e)
      ∙ sym (ap (λ d. upload_at d at) (whole_is c front lost rest));
  sweeps = λ c front lost rest at u n e.
      let had : Claims = fold c front in
      ap (λ d. upload_at d at) (without_is c front lost rest)
      ∙ from_within (upload_at (fold (fold had lost) rest) at) (upload_at (fold had rest) at) u
      (all_within rest (fold had lost) had at (lost_within lost had at n))
      (sym (ap (λ d. upload_at d at) (whole_is c front lost rest)) ∙ e);
  blobs = λ c front lost rest digest e each.
      ap (λ d. blob_at d digest) (without_is c front lost rest)
      ∙ (all_alike rest lost digest (fold c front) (fold (fold c front) lost)
      (lost_alike lost digest (fold c front) e) each).blob
      ∙ sym (ap (λ d. blob_at d digest) (whole_is c front lost rest));
  pairs = λ c front lost rest name digest e.
      ap (λ d. has_pair d (name, digest)) (without_is c front lost rest)
      ∙ pairs_stay rest (fold c front) (fold (fold c front) lost) (name, digest)
      (pairs_kept lost (fold c front) name digest e)
      ∙ sym (ap (λ d. has_pair d (name, digest)) (whole_is c front lost rest));
  no_more = λ c front lost rest name digest e.
      ap (λ d. has_pair d (name, digest)) (whole_is c front lost rest)
      ∙ more_pairs rest (fold c front) (fold (fold c front) lost) (name, digest)
      (pairs_grow lost (fold c front) (name, digest))
      (sym (ap (λ d. has_pair d (name, digest)) (without_is c front lost rest)) ∙ e);
}
