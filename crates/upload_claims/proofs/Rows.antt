-- What changes of the rows do to the table of uploads that they stand for.
use Rattle.std.proofs.Common.{◌≡◌, ℕ, Bool, true, false, not, cond, filter, List, [], ◌∷◌, ◌++◌, Option, Some, None}
use Rattle.std.proofs.Common.{refl, sym, ◌∙◌, ap, true≢false, Bor}
use Rattle.std.specs.Prelude.{nat_lt, ◌==◌, is_some, IfSome, IfNone}
use Rattle.std.specs.Option.{option_map, option_copied}
use Rattle.std.specs.Map.{lookup, keys_of}
use Rattle.std.specs.List.Sorted.{IsStrictlySortedBy}
use Rattle.std.specs.Cmp.{eq_by_cmp_equiv}
use Rattle.std.specs.Cmp.Lexicographic.{nat_list_cmp_total}
use Rattle.std.specs.FinMap as map
use Rattle.std.proofs.lemmas.Map.Entries.{option_filter, lookup-filter-values}
use Rattle.std.proofs.lemmas.Map.Keys.{IsDistinct-from_sorted}
use Rattle.upload_service.specs.Machine.{Table, same}
use Rattle.upload_service.specs.Kept.Entries.{kept_as}
use Rattle.upload_service.proofs.Keeping.Kept.{get-kept, tied_flips}
use Rattle.upload_service.proofs.Keeping.Swept.{bytes_cmp, keys_exact}
use Rattle.upload_service.proofs.Keeping.Tables.{eq_from_same}
use Rattle.upload_claims.specs.declared.change.Stretch.{Stretch}
use Rattle.upload_claims.specs.declared.uploads.ClaimedUpload.{ClaimedUpload}
use Rattle.upload_claims.specs.Claims.{Upload, end_of}
use Rattle.upload_claims.specs.Fold.{taken, seen_at, closed, with_claim, with_any, unless_before, seen_from}
use Rattle.upload_claims.specs.Kept.{upload_of, is_kept, takes_from, pushed}
use Rattle.upload_claims.proofs.Steps.{get-seen_from}

abbrev Rows : Type 0
Rows = List (List ℕ × ClaimedUpload)

abbrev pub table : Rows → Table Upload
table es = kept_as bytes_cmp upload_of es

pub get-table : (es : Rows) (q : List ℕ) → map.get (table es) q ≡ option_map upload_of (lookup (same q) es)
get-table es q = get-kept nat_list_cmp_total keys_exact upload_of es q

-- ---- a body that is taken

pub not_taken : (o : Option ClaimedUpload) (now from : ℕ) (s : Stretch) → takes_from o from ≡ false
    → taken (option_map upload_of o) now from s ≡ None
not_taken None now from s e = refl
not_taken (Some u) now from s e =
    ap (λ b. option_map (λ bodies. record { name = u.name; bodies = bodies; seen = now })
    (cond b (Some (u.bodies.items ++ s ∷ [])) None)) e

is_taken : (o : Option ClaimedUpload) (now from : ℕ) (s : Stretch) → takes_from o from ≡ true
    → taken (option_map upload_of o) now from s ≡ pushed (option_map upload_of o) now s
is_taken None now from s e = refl
is_taken (Some u) now from s e =
    ap (λ b. option_map (λ bodies. record { name = u.name; bodies = bodies; seen = now })
    (cond b (Some (u.bodies.items ++ s ∷ [])) None)) e

written : (es fs : Rows) (at : List ℕ) (x : Upload)
    → ((q : List ℕ) → option_map upload_of (lookup (same q) fs)
    ≡ cond (same at q) (Some x) (option_map upload_of (lookup (same q) es)))
    → table fs ≡ map.insert (table es) at x
written es fs at x h =
    map.same_map nat_list_cmp_total keys_exact (table fs) (map.insert (table es) at x) (λ q.
    get-table fs q ∙ h q
    ∙ ap (λ b. cond b (Some x) (option_map upload_of (lookup (same q) es))) (tied_flips nat_list_cmp_total at q)
    ∙ sym (map.get-insert nat_list_cmp_total (table es) at x q ∙ ap (cond (same q at) (Some x)) (get-table es q)))

pub take_pushed : (es fs : Rows) (at : List ℕ) (now from : ℕ) (s : Stretch)
    → takes_from (lookup (same at) es) from ≡ true
    → ((q : List ℕ) → option_map upload_of (lookup (same q) fs)
    ≡ cond (same at q) (pushed (option_map upload_of (lookup (same at) es)) now s)
    (option_map upload_of (lookup (same q) es)))
    → table fs ≡ with_claim (table es) at (taken (map.get (table es) at) now from s)
take_pushed es fs at now from s t h =
    by_row (lookup (same at) es) refl t
    ∙ sym (ap (λ o. with_claim (table es) at (taken o now from s)) (get-table es at))
  where
    by_row : (o : Option ClaimedUpload) → lookup (same at) es ≡ o → takes_from o from ≡ true
        → table fs ≡ with_claim (table es) at (taken (option_map upload_of (lookup (same at) es)) now from s)
    by_row None e r = absurd (true≢false (sym r))
    by_row (Some u) e r =
        let x : Upload = record { name = u.name; bodies = u.bodies.items ++ s ∷ []; seen = now } in
        written es fs at x (λ q.
        h q ∙ ap (λ o. cond (same at q) (pushed (option_map upload_of o) now s)
        (option_map upload_of (lookup (same q) es))) e)
        ∙ sym (ap (λ o. with_claim (table es) at (taken (option_map upload_of o) now from s)) e
        ∙ ap (with_claim (table es) at) (is_taken (Some u) now from s r))

-- what is made of an upload, by its row
pub taken_of : (es : Rows) (m : Table Upload) → table es ≡ m → (at : List ℕ) (now from : ℕ) (s : Stretch)
    → taken (map.get m at) now from s ≡ taken (option_map upload_of (lookup (same at) es)) now from s
taken_of es m e at now from s =
    ap (λ n. taken (map.get n at) now from s) (sym e) ∙ ap (λ o. taken o now from s) (get-table es at)

pub closed_of : (es : Rows) (m : Table Upload) → table es ≡ m → (at : List ℕ) (o : Option ClaimedUpload) (end : ℕ)
    → o ≡ lookup (same at) es → closed (map.get m at) end ≡ closed (option_map upload_of o) end
closed_of es m e at o end is =
    ap (λ n. closed (map.get n at) end) (sym e) ∙ ap (λ p. closed p end) (get-table es at)
    ∙ ap (λ p. closed (option_map upload_of p) end) (sym is)

pub takes_is : (o : Option ClaimedUpload) (end : ℕ) → takes_from o end ≡ is_some (closed (option_map upload_of o) end)
takes_is None end = refl
takes_is (Some u) end =
    elim (end_of u.bodies.items == end) as (λ b. b ≡ is_some (cond b (Some u.bodies.items) None)) [
      | true ↦ refl
      | false ↦ refl
    ]

-- ---- a row that is looked up

pub found : (es : Rows) (m : Table Upload) → table es ≡ m → (at : List ℕ) (o : Option (Bor ClaimedUpload))
    → option_copied o ≡ lookup (same at) es → IfSome o (λ u. map.get m at ≡ Some (upload_of u.now))
found es m e at None is = tt
found es m e at (Some u) is =
    ap (λ n. map.get n at) (sym e) ∙ get-table es at ∙ ap (option_map upload_of) (sym is)

pub not_found : (es : Rows) (m : Table Upload) → table es ≡ m → (at : List ℕ) (o : Option (Bor ClaimedUpload))
    → option_copied o ≡ lookup (same at) es → IfNone o (map.get m at ≡ None)
not_found es m e at None is =
    ap (λ n. map.get n at) (sym e) ∙ get-table es at ∙ ap (option_map upload_of) (sym is)
not_found es m e at (Some u) is = tt

-- ---- a row that stays as it is seen, or is seen anew

pub same_row : (es fs : Rows) (at : List ℕ) (u v : ClaimedUpload) → Some u ≡ lookup (same at) es
    → upload_of v ≡ upload_of u
    → ((q : List ℕ) → lookup (same q) fs ≡ cond (same at q) (Some v) (lookup (same q) es)) → (q : List ℕ)
    → option_map upload_of (lookup (same q) fs) ≡ option_map upload_of (lookup (same q) es)
same_row es fs at u v is e h q = ap (option_map upload_of) (h q) ∙ by_key (same at q) refl
  where
    by_key : (b : Bool) → same at q ≡ b
        → option_map upload_of (cond b (Some v) (lookup (same q) es)) ≡ option_map upload_of (lookup (same q) es)
    by_key true t =
        ap (λ w. Some w) e
        ∙ ap (option_map upload_of) (is ∙ ap (λ k. lookup (same k) es) (eq_from_same at q t))
    by_key false t = refl

pub none_row : (es : Rows) (at : List ℕ) (now : ℕ) → None ≡ lookup (same at) es → (q : List ℕ)
    → option_map upload_of (lookup (same q) es)
    ≡ cond (same at q) (seen_at (option_map upload_of (lookup (same at) es)) now)
    (option_map upload_of (lookup (same q) es))
none_row es at now is q = by_key (same at q) refl
  where
    by_key : (b : Bool) → same at q ≡ b → option_map upload_of (lookup (same q) es)
        ≡ cond b (seen_at (option_map upload_of (lookup (same at) es)) now) (option_map upload_of (lookup (same q) es))
    by_key true t =
        ap (λ k. option_map upload_of (lookup (same k) es)) (sym (eq_from_same at q t))
        ∙ ap (option_map upload_of) (sym is) ∙ ap (λ o. seen_at (option_map upload_of o) now) is
    by_key false t = refl

pub seen_written : (es fs : Rows) (at : List ℕ) (now : ℕ)
    → ((q : List ℕ) → option_map upload_of (lookup (same q) fs)
    ≡ cond (same at q) (seen_at (option_map upload_of (lookup (same at) es)) now)
    (option_map upload_of (lookup (same q) es)))
    → table fs ≡ with_any (table es) at (seen_at (map.get (table es) at) now)
seen_written es fs at now h =
    by_row (lookup (same at) es) refl ∙ sym (ap (λ o. with_any (table es) at (seen_at o now)) (get-table es at))
  where
    by_row : (o : Option ClaimedUpload) → lookup (same at) es ≡ o
        → table fs ≡ with_any (table es) at (seen_at (option_map upload_of (lookup (same at) es)) now)
    by_row (Some u) e =
        written es fs at (record (upload_of u) { seen = now }) (λ q.
        h q ∙ ap (λ o. cond (same at q) (seen_at (option_map upload_of o) now)
        (option_map upload_of (lookup (same q) es))) e)
        ∙ sym (ap (λ o. with_any (table es) at (seen_at (option_map upload_of o) now)) e)
    by_row None e =
        map.same_map nat_list_cmp_total keys_exact (table fs) (table es) (λ q.
        get-table fs q ∙ h q ∙ sym (none_row es at now (sym e) q) ∙ sym (get-table es q))
        ∙ sym (ap (λ o. with_any (table es) at (seen_at (option_map upload_of o) now)) e)

-- ---- a sweep

only_kept : (moment : ℕ) (o : Option ClaimedUpload)
    → option_map upload_of (option_filter (λ u. not (nat_lt u.seen moment)) o)
    ≡ unless_before moment (option_map upload_of o)
only_kept moment None = refl
only_kept moment (Some u) =
    elim (nat_lt u.seen moment) as (λ b. option_map upload_of (cond (not b) (Some u) None)
    ≡ cond b None (Some (upload_of u))) [ true ↦ refl | false ↦ refl ]

pub table_swept : (moment : ℕ) (es : Rows) → IsStrictlySortedBy bytes_cmp (keys_of es)
    → table (filter (is_kept moment) es) ≡ seen_from moment (table es)
table_swept moment es h =
    map.same_map nat_list_cmp_total keys_exact _ _ (λ q.
    get-table (filter (is_kept moment) es) q
    ∙ ap (option_map upload_of) (lookup-filter-values (eq_by_cmp_equiv nat_list_cmp_total)
    (λ u. not (nat_lt u.seen moment)) q es (IsDistinct-from_sorted bytes_cmp (keys_of es) h))
    ∙ only_kept moment (lookup (same q) es) ∙ ap (unless_before moment) (sym (get-table es q))
    ∙ sym (get-seen_from moment (table es) q))
