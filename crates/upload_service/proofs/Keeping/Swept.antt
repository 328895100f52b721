-- The entries of the awake sessions, and the table that they stand for.
use Rattle.std.proofs.Common.{◌≡◌, ℕ, ◌+◌, ◌≤◌, ◌<◌, List, length, Bool, true, false, not, Option, Some, None, refl}
use Rattle.std.proofs.Common.{sym, ◌∙◌, ap, cond, filter, arith, rules}
use Rattle.std.specs.Option.{option_map}
use Rattle.std.specs.Map.{lookup, keys_of}
use Rattle.std.specs.List.Sorted.{IsStrictlySortedBy}
use Rattle.std.specs.declared.cmp.Ordering.{Ordering}
use Rattle.std.specs.Ordering.{nat_cmp}
use Rattle.std.specs.Cmp.{eq_by_cmp_equiv}
use Rattle.std.specs.Cmp.Lexicographic.{slice_cmp, nat_list_cmp_total}
use Rattle.std.specs.FinMap as map
use Rattle.std.specs.FinMap.{IsAntisymmetric, slice_cmp-IsAntisymmetric, nat_cmp-IsAntisymmetric}
use Rattle.std.proofs.lemmas.Bool.{le-ltb, le-leb, lt-leb}
use Rattle.std.proofs.lemmas.Map.Entries.{option_filter, lookup-filter-values}
use Rattle.std.proofs.lemmas.Map.Keys.{IsDistinct-from_sorted}
use Rattle.std.proofs.lemmas.Map.Made.{IsDistinct-keys_filter}
use Rattle.upload_service.specs.declared.limits.Limits.{Limits}
use Rattle.upload_service.specs.declared.sessions.OpenSession.{OpenSession}
use Rattle.upload_service.specs.Machine.{Session, Table, same, is_idle, unless_idle, awake_of, swept_of}
use Rattle.upload_service.specs.Kept.Entries.{kept_as, session_of, is_kept}
use Rattle.upload_service.proofs.Keeping.Kept.{get-kept, kept-written, len_distinct, len-kept}
use Rattle.upload_service.proofs.Sweeps.{get-awake_of}

abbrev pub bytes_cmp : List ℕ → List ℕ → Ordering
bytes_cmp = slice_cmp nat_cmp

pub keys_exact : IsAntisymmetric bytes_cmp
keys_exact = slice_cmp-IsAntisymmetric nat_cmp-IsAntisymmetric

abbrev Entries : Type 0
Entries = List (List ℕ × OpenSession)

abbrev pub table : Entries → Table Session
table es = kept_as bytes_cmp session_of es

-- an open session with other bytes
abbrev pub with_received : OpenSession → List ℕ → OpenSession
with_received s received = record { name = s.name; received = received; seen = s.seen; grant = s.grant }

-- entries of which one has bytes that are seen the same
pub received_same : (es fs : Entries) (k : List ℕ) (old : OpenSession) (received : List ℕ) → Some old ≡ lookup (same k) es
    → ((q : List ℕ)
    → lookup (same q) fs ≡ cond (same k q) (Some (with_received old received)) (lookup (same q) es))
    → received ≡ old.received → table fs ≡ table es
received_same es fs k old received has h is =
    kept-written nat_list_cmp_total keys_exact session_of es fs k old (with_received old received) has h
    (λ i. record { name = old.name; received = is i; seen = old.seen })

only_awake : (max_idle now : ℕ) (o : Option OpenSession)
    → option_map session_of (option_filter (λ s. not (is_idle max_idle now (session_of s))) o)
    ≡ unless_idle max_idle now (option_map session_of o)
only_awake max_idle now None = refl
only_awake max_idle now (Some s) = search (rules, arith)

-- the awake entries stand for the awake sessions
pub table_awake : (max_idle now : ℕ) (es : Entries) → IsStrictlySortedBy bytes_cmp (keys_of es)
    → table (filter (is_kept max_idle now) es) ≡ awake_of max_idle now (table es)
table_awake max_idle now es h =
    map.same_map nat_list_cmp_total keys_exact _ _ (λ q.
    get-kept nat_list_cmp_total keys_exact session_of (filter (is_kept max_idle now) es) q
    ∙ ap (option_map session_of) (lookup-filter-values (eq_by_cmp_equiv nat_list_cmp_total)
    (λ s. not (is_idle max_idle now (session_of s))) q es (IsDistinct-from_sorted bytes_cmp (keys_of es) h))
    ∙ only_awake max_idle now (lookup (same q) es)
    ∙ ap (unless_idle max_idle now) (sym (get-kept nat_list_cmp_total keys_exact session_of es q))
    ∙ sym (get-awake_of max_idle now (table es) q))

pub len_awake : (max_idle now : ℕ) (es : Entries) → IsStrictlySortedBy bytes_cmp (keys_of es)
    → map.len (awake_of max_idle now (table es)) ≡ length (filter (is_kept max_idle now) es)
len_awake max_idle now es h =
    ap map.len (sym (table_awake max_idle now es h))
    ∙ len_distinct nat_list_cmp_total keys_exact session_of (filter (is_kept max_idle now) es)
    (IsDistinct-keys_filter same (is_kept max_idle now) es (IsDistinct-from_sorted bytes_cmp (keys_of es) h))

-- a session that is awake stays in a sweep
awake_stays : (max_idle now : ℕ) (s : Session) (o : Option Session) (b : Bool) → is_idle max_idle now s ≡ false
    → unless_idle max_idle now (cond b (Some s) o) ≡ cond b (Some s) (unless_idle max_idle now o)
awake_stays max_idle now s o true e = ap (λ c. cond c None (Some s)) e
awake_stays max_idle now s o false e = refl

pub awake-insert : (max_idle now : ℕ) (m : Table Session) (at : List ℕ) (s : Session) → is_idle max_idle now s ≡ false
    → awake_of max_idle now (map.insert m at s) ≡ map.insert (awake_of max_idle now m) at s
awake-insert max_idle now m at s e =
    map.same_map nat_list_cmp_total keys_exact _ _ (λ q.
    get-awake_of max_idle now (map.insert m at s) q
    ∙ ap (unless_idle max_idle now) (map.get-insert nat_list_cmp_total m at s q)
    ∙ awake_stays max_idle now s (map.get m q) (same q at) e
    ∙ ap (cond (same q at) (Some s)) (sym (get-awake_of max_idle now m q))
    ∙ sym (map.get-insert nat_list_cmp_total (awake_of max_idle now m) at s q))

pub new_is_awake : (max_idle now : ℕ) (name received : List ℕ)
    → is_idle max_idle now (record { name = name; received = received; seen = now }) ≡ false
new_is_awake max_idle now name received = le-ltb (now + max_idle) now (omega arith)

-- the table beside which one more is opened, by how many entries there are
pub swept_full : (limits : Limits) (now : ℕ) (es : Entries) → IsStrictlySortedBy bytes_cmp (keys_of es)
    → limits.max_open ≤ length es → swept_of limits now (table es) ≡ awake_of limits.max_idle now (table es)
swept_full limits now es h full =
    let len : map.len (table es) ≡ length es = len-kept nat_list_cmp_total keys_exact session_of es h in
    ap (λ b. cond b (awake_of limits.max_idle now (table es)) (table es))
    (le-leb limits.max_open (map.len (table es)) (omega arith))

pub swept_roomy : (limits : Limits) (now : ℕ) (es : Entries) → IsStrictlySortedBy bytes_cmp (keys_of es)
    → length es < limits.max_open → swept_of limits now (table es) ≡ table es
swept_roomy limits now es h room =
    let len : map.len (table es) ≡ length es = len-kept nat_list_cmp_total keys_exact session_of es h in
    ap (λ b. cond b (awake_of limits.max_idle now (table es)) (table es))
    (lt-leb limits.max_open (map.len (table es)) (omega arith))
