-- When an opening is refused, in the words of a full table.
use Rattle.std.proofs.Common.{◌≡◌, ℕ, zero, suc, ◌+◌, ◌-◌, ◌<◌, ◌≤◌, List, [], ◌∷◌, length, true, false, Option}
use Rattle.std.proofs.Common.{Some, None, refl, sym, ◌∙◌, ap, cond, arith, rules}
use Rattle.std.specs.Prelude.{is_some}
use Rattle.std.proofs.lemmas.Bool.{le-leb, lt-leb}
use Rattle.std.specs.FinMap as map
use Rattle.std.specs.FinMap.{len-remove, get-entries, len-entries, empty_of_len, get-empty, slice_cmp-IsAntisymmetric}
use Rattle.std.specs.FinMap.{nat_cmp-IsAntisymmetric}
use Rattle.std.specs.Ordering.{nat_cmp}
use Rattle.std.specs.Cmp.Lexicographic.{slice_cmp, nat_list_cmp_total}
use Rattle.upload_names.specs.Reference.{reference}
use Rattle.upload_service.specs.declared.answer.Refusal.TheVariants as refusals
use Rattle.upload_service.specs.Machine.{Session, Table, State, Begins, refused, is_idle, unless_idle, awake_of}
use Rattle.upload_service.specs.Machine.{all_awake, last_number, opening}
use Rattle.upload_service.specs.FullTable.{OpeningsMeetTheTable}
use Rattle.upload_service.proofs.Keeping.Tables.{same_itself, one_or_two, get-remove_same, get-remove_other}
use Rattle.upload_service.proofs.Steps.{None≢Some}
use Rattle.upload_service.proofs.Sweeps.{get-awake_of}

abbrev IsWithin : Table Session → Table Session → Type 0
IsWithin a m = (q : List ℕ) (x : Session) → map.get a q ≡ Some x → map.get m q ≡ Some x

-- a key that is there
first_key : (m : Table Session) (es : List (List ℕ × Session)) → map.entries m ≡ es → (n : ℕ) → length es ≡ suc n
    → (k : List ℕ) × (x : Session) × (map.get m k ≡ Some x)
first_key m [] e n l = absurd (omega arith)
first_key m (p ∷ ps) e n l = (
  p.0,
  p.1,
  get-entries m p.0 ∙ ap (map.find (slice_cmp nat_cmp) p.0) e
      ∙ ap (λ b. cond b (Some p.1) (map.find (slice_cmp nat_cmp) p.0 ps)) (same_itself p.0),
)

some_in : (m : Table Session) (k : List ℕ) (x : Session) → map.get m k ≡ Some x → 0 < map.len m
some_in m k x e =
    elim (map.len m) as (λ n. map.len m ≡ n → 0 < n) [
      | zero ↦ λ none.
          absurd (None≢Some (sym (ap (λ t. map.get t k) (empty_of_len m none) ∙ get-empty (slice_cmp nat_cmp) k) ∙ e))
      | suc n ↦ λ _. omega arith
    ] refl

len_removed : (m : Table Session) (k : List ℕ) (x : Session) → map.get m k ≡ Some x
    → map.len (map.remove m k) + 1 ≡ map.len m
len_removed m k x e =
    let less : map.len (map.remove m k) ≡ map.len m - 1 =
    len-remove nat_list_cmp_total m k ∙ ap (λ o. cond (is_some o) (map.len m - 1) (map.len m)) e in
    let some : 0 < map.len m = some_in m k x e in
    omega arith

within_removed : (a m : Table Session) (k : List ℕ) → IsWithin a m → IsWithin (map.remove a k) (map.remove m k)
within_removed a m k h q x e = search (rules, arith, one_or_two, None≢Some, get-remove_same, get-remove_other)

len_within : (n : ℕ) (a m : Table Session) → map.len a ≡ n → IsWithin a m → map.len a ≤ map.len m
len_within zero a m l h = omega arith
len_within (suc n) a m l h =
    grind (
      arith,
      first_key a (map.entries a) refl n (sym (len-entries a) ∙ l),
      len_removed a,
      len_removed m,
      within_removed a m,
      len_within n,
    )

awake_within : (max_idle now : ℕ) (o : Option Session) (x : Session) → unless_idle max_idle now o ≡ Some x → o ≡ Some x
awake_within max_idle now None x e = e
awake_within max_idle now (Some s) x e = search (rules, arith, None≢Some)

-- if a session is idle, fewer are awake than are open
pub fewer_awake : (max_idle now : ℕ) (m : Table Session) (k : List ℕ) (x : Session) → map.get m k ≡ Some x
    → is_idle max_idle now x ≡ true → map.len (awake_of max_idle now m) < map.len m
fewer_awake max_idle now m k x e idle =
    grind (arith, one_or_two, None≢Some, get-awake_of, get-remove_other, awake_within, len_within, len_removed)

-- if none is idle, all are awake
pub all_are_awake : (max_idle now : ℕ) (m : Table Session)
    → ((k : List ℕ) (x : Session) → map.get m k ≡ Some x → is_idle max_idle now x ≡ false) → awake_of max_idle now m ≡ m
all_are_awake max_idle now m none =
    map.same_map nat_list_cmp_total (slice_cmp-IsAntisymmetric nat_cmp-IsAntisymmetric) (awake_of max_idle now m) m
    (λ q. get-awake_of max_idle now m q
    ∙ elim (map.get m q) as (λ o. map.get m q ≡ o → unless_idle max_idle now o ≡ o)
    [ None ↦ λ _. refl | Some x ↦ λ e. ap (λ b. cond b None (Some x)) (none q x e) ] refl)

-- an opening of a full table, if numbers are left: refused if none is idle, else the idle ones leave
pub full_and_none_idle : (s : State) (name secret : List ℕ) (now : ℕ) → map.len s.sessions ≡ s.limits.max_open
    → ((k : List ℕ) (x : Session) → map.get s.sessions k ≡ Some x → is_idle s.limits.max_idle now x ≡ false)
    → opening s name secret now ≡ refused refusals.TooMany
full_and_none_idle s name secret now full none = search (rules, arith, all_are_awake, le-leb)

pub full_and_one_idle : (s : State) (name secret : List ℕ) (now : ℕ) → map.len s.sessions ≡ s.limits.max_open
    → s.issued < last_number → (k : List ℕ) (x : Session) → map.get s.sessions k ≡ Some x
    → is_idle s.limits.max_idle now x ≡ true → opening s name secret now ≡ Begins name (reference (s.issued + 1) secret)
full_and_one_idle s name secret now full left k x e idle = search (rules, arith, fewer_awake, lt-leb)

used_up : (s : State) (name secret : List ℕ) (now : ℕ) → last_number ≤ s.issued
    → opening s name secret now ≡ refused refusals.TooMany
used_up s name secret now le = search (rules, arith, le-leb)

room_left : (s : State) (name secret : List ℕ) (now : ℕ) → s.issued < last_number
    → map.len s.sessions < s.limits.max_open → opening s name secret now ≡ Begins name (reference (s.issued + 1) secret)
room_left s name secret now left room = search (rules, arith, len_within, awake_within, get-awake_of, lt-leb)

pub openings_meet_the_table : OpeningsMeetTheTable
openings_meet_the_table =
    record {
      used_up = used_up;
      full = λ s name secret now full none. full_and_none_idle s name secret now full none;
      idle = λ s name secret now left full one. full_and_one_idle s name secret now full left one.0 one.1 one.2 one.3;
      room = room_left;
      leave =
          λ s now full at. ap (λ b. map.get (cond b (all_awake s now) s.sessions) at)
          (le-leb s.limits.max_open (map.len s.sessions) (omega arith))
          ∙ get-awake_of s.limits.max_idle now s.sessions at;
      stay =
          λ s now room.
          ap (λ b. cond b (all_awake s now) s.sessions) (lt-leb s.limits.max_open (map.len s.sessions) room);
    }
