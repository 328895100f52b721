-- A service stays lawful.
use Rattle.std.proofs.Common.{◌≡◌, ◌≢◌, ℕ, ◌+◌, ◌-◌, ◌<◌, ◌≤◌, List, [], ◌∷◌, length, true, Option, Some, None}
use Rattle.std.proofs.Common.{refl, sym, ◌∙◌, ap, subst, ◌⊎◌, inl, inr, cond, arith, rules}
use Rattle.std.proofs.lemmas.Bool.{true≢false}
use Rattle.std.specs.FinMap as map
use Rattle.std.specs.FinMap.{FinMap}
use Rattle.upload_names.specs.Digest.{Digest, digest_cmp, HasDigest}
use Rattle.upload_names.specs.Reference.{number_of}
use Rattle.upload_service.specs.declared.ask.Ask.{Ask}
use Rattle.upload_service.specs.declared.answer.Answer.{Answer}
use Rattle.upload_service.specs.Machine.{all_awake, swept, Table, Session, State, Outcome, SessionChange, AllStay, OneBegins}
use Rattle.upload_service.specs.Machine.{OneTakes, OneLeaves, effect, answer_of, issued_with, sessions_with, blobs_with}
use Rattle.upload_service.specs.Machine.{pairs_with, state_after, last_number, holds, outcome}
use Rattle.std.specs.Prelude.{IsSome, is_some, IsTrue}
use Rattle.std.specs.FinSet as set
use Rattle.std.specs.FinSet.{FinSet}
use Rattle.std.specs.Ordering.{eq_by_cmp}
use Rattle.std.specs.FinMap.{len-insert, len-remove, contains_key}
use Rattle.std.specs.Cmp.Lexicographic.{nat_list_cmp_total}
use Rattle.upload_service.specs.Machine.{Turn, IsLawful, pair_cmp}
use Rattle.upload_service.proofs.Claims.{StaysLawful}
use Rattle.upload_service.proofs.Keeping.Tables.{one_or_two, one_or_two_digests, blob-insert_same, blob-insert_other}
use Rattle.upload_service.proofs.Keeping.Tables.{get-insert_same, get-insert_other, get-remove_same, get-remove_other}
use Rattle.upload_service.proofs.Keeping.Tables.{contains-insert, pair_from_same}
use Rattle.upload_service.proofs.Steps.{outcome_sound, by_test, None≢Some}
use Rattle.upload_service.proofs.Effects.{FitsChange, FitsStore, IsOutcome}
use Rattle.upload_service.proofs.Sweeps.{was_there, awake_was_there, swept_has_room}
use Rattle.upload_service.proofs.Turns.{number_of-reference}

some_is : {A : Type 0} (o : Option A) → IsSome o → (x : A) × (o ≡ Some x)
some_is None e = absurd (true≢false (sym e))
some_is (Some x) e = (x, refl)

len_under : {X : Type 0} (m : Table X) (k : List ℕ) (v : X) (bound : ℕ) → map.len m < bound
    → map.len (map.insert m k v) ≤ bound
len_under m k v bound h =
    subst (λ n. n ≤ bound) (sym (len-insert nat_list_cmp_total m k v))
    (by_test (λ n. n ≤ bound) (contains_key m k) (map.len m) (map.len m + 1) (λ _. omega arith) (λ _. omega arith))

len_again : {X : Type 0} (m : Table X) (k : List ℕ) (old v : X) → map.get m k ≡ Some old
    → map.len (map.insert m k v) ≡ map.len m
len_again m k old v e =
    len-insert nat_list_cmp_total m k v ∙ ap (λ b. cond b (map.len m) (map.len m + 1)) (ap is_some e)

len_less : {X : Type 0} (m : Table X) (k : List ℕ) → map.len (map.remove m k) ≤ map.len m
len_less m k =
    subst (λ n. n ≤ map.len m) (sym (len-remove nat_list_cmp_total m k))
    (by_test (λ n. n ≤ map.len m) (contains_key m k) (map.len m - 1) (map.len m) (λ _. omega arith) (λ _. omega arith))

-- a fact of each session, after an insertion
each_insert : (m : Table Session) (k : List ℕ) (v : Session) (P : List ℕ → Session → Type 0)
    → P k v → ((at : List ℕ) (session : Session) → map.get m at ≡ Some session → P at session)
    → (at : List ℕ) (session : Session) → map.get (map.insert m k v) at ≡ Some session → P at session
each_insert m k v P new each at session e =
    elim (one_or_two at k) [
      | inl same ↦
          let v_is : v ≡ session =
          let both : Some v ≡ Some session =
          sym (get-insert_same m k v) ∙ ap (map.get (map.insert m k v)) (sym same) ∙ e in cc in
          subst (λ q. P q session) (sym same) (subst (P k) v_is new)
      | inr other ↦ each at session (sym (get-insert_other m k v at other) ∙ e)
    ]

each_remove : (m : Table Session) (k : List ℕ) (P : List ℕ → Session → Type 0)
    → ((at : List ℕ) (session : Session) → map.get m at ≡ Some session → P at session)
    → (at : List ℕ) (session : Session) → map.get (map.remove m k) at ≡ Some session → P at session
each_remove m k P each at session e = search (rules, arith, one_or_two, None≢Some, get-remove_same, get-remove_other)

abbrev IsNumberIn : ℕ → List ℕ → Session → Type 0
IsNumberIn issued at session = (0 < number_of at) × (number_of at ≤ issued)

abbrev IsSmall : ℕ → List ℕ → Session → Type 0
IsSmall bound at session = length session.received ≤ bound

abbrev AreDifferent : Table Session → Type 0
AreDifferent m = (a b : List ℕ) → IsSome (map.get m a) → IsSome (map.get m b) → number_of a ≡ number_of b → a ≡ b

-- one more session, whose number no other has
different_insert : (m : Table Session) (k : List ℕ) (v : Session)
    → ((at : List ℕ) → at ≢ k → IsSome (map.get m at) → number_of at ≢ number_of k) → AreDifferent m
    → AreDifferent (map.insert m k v)
different_insert m k v fresh h a b p q e =
    grind (arith, one_or_two a k, one_or_two b k, get-insert_other m k v b, get-insert_other m k v a)

some_before_remove : (m : Table Session) (k a : List ℕ) → IsSome (map.get (map.remove m k) a) → IsSome (map.get m a)
some_before_remove m k a p = search (rules, arith, one_or_two, true≢false, get-remove_same, get-remove_other)

some_before_sweep : (s : State) (now : ℕ) (a : List ℕ) → IsSome (map.get (swept s now) a)
    → IsSome (map.get s.sessions a)
some_before_sweep s now a p = search (rules, arith, some_is, was_there)

-- a blob stored under its own digest, and a pair of it
own_digest_insert : (s : State) (digest : Digest) (blob : List ℕ) → IsLawful s → HasDigest blob digest
    → (d : Digest) (b : List ℕ) → map.get (map.insert s.blobs digest blob) d ≡ Some b → HasDigest b d
own_digest_insert s digest blob h own d b e =
    elim (one_or_two_digests d digest) [
      | inl same ↦
          let b_is : blob ≡ b =
          let both : Some blob ≡ Some b = sym (blob-insert_same s.blobs digest blob)
          ∙ ap (map.get (map.insert s.blobs digest blob)) (sym same) ∙ e in cc in
          subst (λ q. HasDigest q d) b_is (subst (HasDigest blob) (sym same) own)
      | inr other ↦ h.own_digest d b (sym (blob-insert_other s.blobs digest blob d other) ∙ e)
    ]

is_stored_insert : (m : FinMap digest_cmp (List ℕ)) (digest : Digest) (blob : List ℕ) (d : Digest)
    → IsSome (map.get m d) → IsSome (map.get (map.insert m digest blob) d)
is_stored_insert m digest blob d h = search (rules, arith, one_or_two_digests, blob-insert_same, blob-insert_other)

pair_parts : (n : List ℕ) (d : Digest) (name : List ℕ) (digest : Digest)
    → eq_by_cmp pair_cmp (name, digest) (n, d) ≡ true → digest ≡ d
pair_parts n d name digest e = ap (λ (p : List ℕ × Digest). p.1) (pair_from_same (name, digest) (n, d) e)

held_insert : (s : State) (n : List ℕ) (d : Digest) (name : List ℕ) (digest : Digest)
    → holds (record s { pairs = set.insert s.pairs (n, d) }) name digest ≡ true
    → (digest ≡ d) ⊎ (holds s name digest ≡ true)
held_insert s n d name digest e = search (rules, arith, pair_parts, contains-insert)

stored_insert : (s : State) (n : List ℕ) (digest : Digest) (blob : List ℕ) → IsLawful s → (name : List ℕ) (d : Digest)
    → holds (record s { pairs = set.insert s.pairs (n, digest) }) name d ≡ true
    → IsSome (map.get (map.insert s.blobs digest blob) d)
stored_insert s n digest blob h name d e = search (rules, arith, held_insert, blob-insert_same, is_stored_insert)

-- what a lawful state says of its sessions
record AreLawfulSessions (s : State) (issued : ℕ) (sessions : Table Session) : Type 0 where
  numbered : (at : List ℕ) (session : Session) → map.get sessions at ≡ Some session → IsNumberIn issued at session
  different : AreDifferent sessions
  few : map.len sessions ≤ s.limits.max_open
  small : (at : List ℕ) (session : Session) → map.get sessions at ≡ Some session → IsSmall s.limits.max_blob at session

sessions_after : (s : State) (ask : Ask) (secret : List ℕ) (now : ℕ) (answer : Answer) (change : SessionChange)
    → FitsChange s ask secret now answer change → IsLawful s
    → AreLawfulSessions s (issued_with s.issued change) (sessions_with s now change)
sessions_after s ask secret now answer AllStay f h = search (rules, arith)
sessions_after s ask secret now answer (OneBegins name new) f h =
    let n : number_of new ≡ s.issued + 1 =
    ap number_of f.0.is_new ∙ number_of-reference (s.issued + 1) secret
    (let left : s.issued < last_number = f.0.numbers_left in omega arith) in
    record {
      numbered = each_insert (swept s now) new _ (IsNumberIn (s.issued + 1)) (omega arith, omega arith) (λ at session e.
          let was = h.numbered at session (was_there s now at session e) in let old : number_of at ≤ s.issued = was.1 in
          (was.0, omega arith));
      different = different_insert (swept s now) new _ (λ at other some same.
          let found = some_is (map.get (swept s now) at) some in let old : number_of at ≤ s.issued =
          (h.numbered at found.0 (was_there s now at found.0 found.1)).1 in omega arith)
          (λ a b p q. h.different a b (some_before_sweep s now a p) (some_before_sweep s now b q));
      few = len_under (swept s now) new _ s.limits.max_open (swept_has_room s now f.0.room);
      small =
          each_insert (swept s now) new _ (IsSmall s.limits.max_blob) (omega arith)
          (λ at session e. h.small at session (was_there s now at session e));
    }
sessions_after s ask secret now answer (OneTakes name to got) f h =
    let found = f.0.found in
    record {
      numbered =
          each_insert s.sessions to _ (IsNumberIn s.issued) (h.numbered to found.session found.is_open) h.numbered;
      different =
          different_insert s.sessions to _
          (λ at other some same. other (h.different at to some (ap is_some found.is_open) same)) h.different;
      few = subst (λ n. n ≤ s.limits.max_open) (sym (len_again s.sessions to found.session _ found.is_open)) h.few;
      small = each_insert s.sessions to _ (IsSmall s.limits.max_blob) f.0.small h.small;
    }
sessions_after s ask secret now answer (OneLeaves to) f h =
    grind (
      arith,
      each_remove s.sessions to (IsNumberIn s.issued) h.numbered,
      some_before_remove s.sessions to,
      len_less s.sessions to,
      each_remove s.sessions to (IsSmall s.limits.max_blob) h.small,
    )

-- and what it says of its blobs
record IsLawfulStore (blobs : FinMap digest_cmp (List ℕ)) (pairs : FinSet pair_cmp) : Type 0 where
  own_digest : (digest : Digest) (blob : List ℕ) → map.get blobs digest ≡ Some blob → HasDigest blob digest
  stored : (name : List ℕ) (digest : Digest) → IsTrue (set.contains pairs (name, digest))
      → IsSome (map.get blobs digest)

-- a blob of its own digest is stored, under the pair that its repository gets
store_insert : (s : State) (n : List ℕ) (of digest : Digest) (blob : List ℕ) → of ≡ digest → HasDigest blob digest
    → IsLawful s → IsLawfulStore (map.insert s.blobs of blob) (set.insert s.pairs (n, digest))
store_insert s n of digest blob is own h = search (rules, arith, own_digest_insert, stored_insert)

store_after : (s : State) (now : ℕ) (ask : Ask) (blob : Option (Digest × List ℕ)) (pair : Option (List ℕ × Digest))
    → FitsStore s now ask blob pair → IsLawful s
    → IsLawfulStore (blobs_with s.blobs blob) (pairs_with s.pairs pair)
store_after s now ask None None f h = record { own_digest = h.own_digest; stored = h.stored }
store_after s now ask (Some stored) None f h = absurd f
store_after s now ask None (Some (name, digest)) f h = search (rules, arith, held_insert)
store_after s now ask (Some (of, blob)) (Some (name, digest)) (is, inl (at, f)) h =
    search (rules, arith, store_insert)
store_after s now ask (Some (of, blob)) (Some (name, digest)) (is, inr f) h = search (rules, arith, store_insert)

lawful_after : (s : State) (ask : Ask) (secret : List ℕ) (now : ℕ) (o : Outcome) → IsOutcome s ask secret now o
    → IsLawful s → IsLawful (state_after s now o)
lawful_after s ask secret now o f h =
    let sessions =
    sessions_after s ask secret now (answer_of o) (effect o).sessions f.change h in
    let store = store_after s now ask (effect o).blob (effect o).pair f.store h in
    record {
      numbered = sessions.numbered;
      different = sessions.different;
      few = sessions.few;
      small = sessions.small;
      own_digest = store.own_digest;
      stored = store.stored;
    }

pub lawful_turn : (s : State) (ask : Ask) (secret : List ℕ) (now : ℕ) (answer : Answer) (t : State) → IsLawful s
    → Turn s ask secret now answer t → IsLawful t
unfolding Turn
lawful_turn s ask secret now answer t h (inl did) =
    subst IsLawful (sym did.1)
    (lawful_after s ask secret now (outcome s ask secret now) (outcome_sound s now ask secret) h)
lawful_turn s ask secret now answer t h (inr lacked) = subst IsLawful (sym lacked.2) h

pub stays_lawful : StaysLawful
unfolding Turn
stays_lawful start [] end h e = subst IsLawful (sym e) h
stays_lawful start (x ∷ xs) end h (mid, turn, rest) =
    stays_lawful mid xs end (lawful_turn start x.ask x.secret x.now x.answer mid h turn) rest

-- without the idle sessions it is lawful too
pub lawful_awake : (s : State) (now : ℕ) → map.len (all_awake s now) ≤ map.len s.sessions → IsLawful s
    → IsLawful (record s { sessions = all_awake s now })
lawful_awake s now fewer h =
    let there : (at : List ℕ) (session : Session) → map.get (all_awake s now) at ≡ Some session
    → map.get s.sessions at ≡ Some session =
    λ at session e. awake_was_there s now at session e in
    let some : (at : List ℕ) → IsSome (map.get (all_awake s now) at) → IsSome (map.get s.sessions at) =
    λ at p. let found = some_is (map.get (all_awake s now) at) p in ap is_some (there at found.0 found.1) in
    let few : map.len s.sessions ≤ s.limits.max_open = h.few in
    record {
      numbered = λ at session e. h.numbered at session (there at session e);
      different = λ a b p q e. h.different a b (some a p) (some b q) e;
      few = omega arith;
      small = λ at session e. h.small at session (there at session e);
      own_digest = h.own_digest;
      stored = h.stored;
    }
