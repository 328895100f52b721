-- What each exchange does to claims that agree with the state before it.
use Rattle.std.proofs.Common.{◌≡◌, ◌≢◌, ℕ, ◌+◌, ◌-◌, ◌<◌, Bool, true, false, cond, List, [], ◌∷◌, ◌++◌, length}
use Rattle.std.proofs.Common.{Option, Some, None, refl, sym, ◌∙◌, ap, subst, inl, inr, length-append, append-nil, arith}
use Rattle.std.proofs.Common.{true≢false}
use Rattle.std.specs.Prelude.{◌||◌, ◌==◌, nat_lt, nat_le, is_some}
use Rattle.std.proofs.lemmas.Bool.{ltb-true, ltb-false, lt-ltb, le-ltb, eq-eqb, eqb-true}
use Rattle.std.specs.Option.{option_map}
use Rattle.std.specs.Ordering.{eq_by_cmp}
use Rattle.std.specs.Cmp.Lexicographic.{nat_list_cmp_total}
use Rattle.std.specs.FinMap as map
use Rattle.std.specs.FinSet as set
use Rattle.std.specs.FinSet.{FinSet}
use Rattle.upload_names.specs.Digest.{Digest}
use Rattle.upload_names.specs.Reference.{reference, number_of}
use Rattle.upload_service.specs.declared.ask.Extent.{Extent}
use Rattle.upload_service.specs.declared.ask.Ask.{Ask}
use Rattle.upload_service.specs.declared.ask.Ask.TheVariants as asks
use Rattle.upload_service.specs.Machine.{Session, Table, State, Outcome, Begins, Takes, Commits, Stores, Mounts}
use Rattle.upload_service.specs.Machine.{answer_of, state_after, is_idle, unless_idle, awake_of, outcome, pair_cmp}
use Rattle.upload_service.specs.Machine.{Turn}
use Rattle.upload_service.proofs.Keeping.Tables.{digests_total, pairs_total, pairs_exact, eq_from_same}
use Rattle.upload_service.proofs.Keeping.Tables.{eq_from_same_digest, pair_from_same}
use Rattle.upload_service.proofs.Keeping.Swept.{keys_exact}
use Rattle.upload_service.proofs.Sweeps.{get-awake_of}
use Rattle.upload_service.proofs.Steps.{HasRoom, HoldsOfEach, by_ask}
use Rattle.upload_service.proofs.Effects.{Found}
use Rattle.upload_service.proofs.Turns.{new_number}
use Rattle.upload_claims.specs.declared.change.Place.{Place}
use Rattle.upload_claims.specs.declared.change.Stretch.{Stretch}
use Rattle.upload_claims.specs.declared.change.Change.{Change}
use Rattle.upload_claims.specs.declared.change.Change.TheVariants as changes
use Rattle.upload_claims.specs.declared.noted.Noted.{Noted}
use Rattle.upload_claims.specs.Claims.{Upload, Claims, end_of, received_by}
use Rattle.upload_claims.specs.Fold.{joined, taken, seen_at, closed, with_claim, with_any, unless_before, seen_from}
use Rattle.upload_claims.specs.Fold.{apply, fold}
use Rattle.upload_claims.specs.Noted.{Served, brought_by, was_seen, seen_by, closed_by, blob_by, has_by, changes_by}
use Rattle.upload_claims.specs.Noted.{noted_of, changes_of}
use Rattle.upload_claims.specs.Standing.{Disk, bytes_in, session_in}
use Rattle.upload_claims.specs.Laws.{IsThere, IsKnown, HasBytes}
use Rattle.upload_claims.proofs.Tables.{Both, Agree, both_some, both_there, agree-insert, agree-kept, agree-remove}
use Rattle.upload_claims.proofs.Tables.{len-each, remove-insert, get-insert_same}
use Rattle.upload_claims.proofs.Standing.{IsUpload, IsBlob, Agrees, sessions_are, bytes_in-push, end-push}
use Rattle.upload_claims.proofs.Folding.{fold-append}

-- ---- a sweep

kept_or_none : (moment : ℕ) (o : Option Upload)
    → cond (is_some (unless_before moment o)) o None ≡ unless_before moment o
kept_or_none moment None = refl
kept_or_none moment (Some u) =
    elim (nat_lt u.seen moment) as (λ b. cond (is_some (cond b None (Some u))) (Some u) None ≡ cond b None (Some u)) [
      | true ↦ refl
      | false ↦ refl
    ]

pub get-seen_from : (moment : ℕ) (m : Table Upload) (at : List ℕ)
    → map.get (seen_from moment m) at ≡ unless_before moment (map.get m at)
get-seen_from moment m at =
    map.get-retain_keys m (λ k. is_some (unless_before moment (map.get m k))) at
    (λ x e. ap (λ k. is_some (unless_before moment (map.get m k))) (sym (keys_exact at x e)))
    ∙ kept_or_none moment (map.get m at)

-- to be seen before a moment is to be idle
before_is_idle : (seen max_idle now : ℕ) → nat_lt seen (now - max_idle) ≡ nat_lt (seen + max_idle) now
before_is_idle seen max_idle now =
    elim (nat_lt (seen + max_idle) now) as (λ b. nat_lt (seen + max_idle) now ≡ b → nat_lt seen (now - max_idle) ≡ b) [
      | true ↦ λ e. lt-ltb seen (now - max_idle) (omega (arith, ltb-true (seen + max_idle) now e))
      | false ↦ λ e. le-ltb seen (now - max_idle) (omega (arith, ltb-false (seen + max_idle) now e))
    ] refl

both_swept : (disk : Disk) (max_idle now : ℕ) (o : Option Upload) (p : Option Session) → Both (IsUpload disk) o p
    → Both (IsUpload disk) (unless_before (now - max_idle) o) (unless_idle max_idle now p)
both_swept disk max_idle now None None h = tt
both_swept disk max_idle now None (Some session) h = absurd h
both_swept disk max_idle now (Some u) None h = absurd h
both_swept disk max_idle now (Some u) (Some session) h =
    let test : nat_lt u.seen (now - max_idle) ≡ is_idle max_idle now session =
    ap (λ seen. nat_lt seen (now - max_idle)) h.seen ∙ before_is_idle session.seen max_idle now in
    subst (λ b. Both (IsUpload disk) (cond b None (Some u)) (unless_idle max_idle now (Some session))) (sym test)
    (elim (is_idle max_idle now session) as (λ b. Both (IsUpload disk) (cond b None (Some u)) (cond b None (Some session))) [
      | true ↦ tt
      | false ↦ h
    ])

agree-swept : (disk : Disk) (max_idle now : ℕ) (m : Table Upload) (n : Table Session) → Agree (IsUpload disk) m n
    → Agree (IsUpload disk) (seen_from (now - max_idle) m) (awake_of max_idle now n)
agree-swept disk max_idle now m n h at =
    subst (λ o. Both (IsUpload disk) o (map.get (awake_of max_idle now n) at)) (sym (get-seen_from (now - max_idle) m at))
    (subst (λ p. Both (IsUpload disk) (unless_before (now - max_idle) (map.get m at)) p)
    (sym (get-awake_of max_idle now n at)) (both_swept disk max_idle now (map.get m at) (map.get n at) (h at)))

-- ---- one more body

pub joined_fits : (bodies : List Stretch) (from : ℕ) (b : Stretch) → end_of bodies ≡ from
    → joined bodies from b ≡ Some (bodies ++ b ∷ [])
joined_fits bodies from b e = ap (λ t. cond t (Some (bodies ++ b ∷ [])) None) (eq-eqb (end_of bodies) from e)

pushed_bytes : (disk : Disk) (bodies : List Stretch) (b : Stretch) (received body : List ℕ)
    → bytes_in disk bodies ≡ received → disk b.place ≡ body
    → bytes_in disk (bodies ++ b ∷ []) ≡ received ++ body
pushed_bytes disk bodies b received body e f =
    bytes_in-push disk bodies b ∙ ap (λ xs. xs ++ disk b.place) e ∙ ap (λ ys. received ++ ys) f

-- ---- no bytes

positive : (n : ℕ) → (n == 0) ≡ false → 0 < n
positive n e = (let h : n ≢ 0 = λ is. true≢false (sym (eq-eqb n 0 is) ∙ e) in omega arith)

empty : (xs : List ℕ) → length xs ≡ 0 → xs ≡ []
empty [] e = refl
empty (x ∷ xs) e = absurd (omega (arith, e))

-- ---- a pair that is there

insert_there : (ps : FinSet pair_cmp) (p : List ℕ × Digest) → set.contains ps p ≡ true → set.insert ps p ≡ ps
insert_there ps p h =
    set.same_set pairs_total pairs_exact _ _ (λ q.
    set.contains-insert pairs_total ps p q ∙ by_pair q (eq_by_cmp pair_cmp q p) refl)
  where
    by_pair : (q : List ℕ × Digest) (b : Bool) → eq_by_cmp pair_cmp q p ≡ b
        → (b || set.contains ps q) ≡ set.contains ps q
    by_pair q true e = sym (ap (set.contains ps) (pair_from_same q p e) ∙ h)
    by_pair q false e = refl

-- ---- each outcome

module _ (disk : Disk) (c : Claims) (s : State) (a : Agrees disk c s) (place : Place) (known : Bool) (now : ℕ) where
  abbrev note : Ask → Noted
  note ask = record { brought = brought_by ask; moment = now; place = place; known = known }

  -- the claims after the changes of an outcome agree with the state after it
  abbrev Follows : Ask → Outcome → Type 0
  Follows ask o =
      IsThere disk place known ask (answer_of o) → IsKnown disk c known ask
      → Agrees disk (fold c (changes_by s.limits c (note ask) (answer_of o))) (state_after s now o)

  as_many : map.len c.uploads ≡ map.len s.sessions
  as_many = sym (len-each (session_in disk) c.uploads) ∙ ap map.len (sessions_are disk c s a)

  -- the claims after a sweep, and the numbers and the upload after that
  begun_after : (b : Bool) (name at : List ℕ) → number_of at ≡ s.issued + 1
      → Agrees disk
      (fold c (cond b (changes.LapsedBefore (now - s.limits.max_idle) ∷ []) []
      ++ changes.NumbersUpTo (number_of at) ∷ changes.Began at name now ∷ []))
      (record s {
        issued = s.issued + 1;
        sessions = map.insert (cond b (awake_of s.limits.max_idle now s.sessions) s.sessions) at
            (record { name = name; received = []; seen = now });
      })
  begun_after true name at number = record {
    uploads =
        agree-insert (IsUpload disk) nat_list_cmp_total (seen_from (now - s.limits.max_idle) c.uploads)
        (awake_of s.limits.max_idle now s.sessions) at _ _
        (agree-swept disk s.limits.max_idle now c.uploads s.sessions a.uploads)
        (record { name = refl; bytes = refl; seen = refl; sized = refl });
    blobs = a.blobs;
    pairs = a.pairs;
    issued = (let e : c.issued ≡ s.issued = a.issued in omega arith);
  }
  begun_after false name at number = record {
    uploads =
        agree-insert (IsUpload disk) nat_list_cmp_total c.uploads s.sessions at _ _ a.uploads
        (record { name = refl; bytes = refl; seen = refl; sized = refl });
    blobs = a.blobs;
    pairs = a.pairs;
    issued = (let e : c.issued ≡ s.issued = a.issued in omega arith);
  }

  begun : (ask : Ask) (name secret : List ℕ) → HasRoom s now
      → Follows ask (Begins name (reference (s.issued + 1) secret))
  begun ask name secret room here kept =
      let at : List ℕ = reference (s.issued + 1) secret in
      subst (λ n. Agrees disk
      (fold c (cond (nat_le s.limits.max_open n) (changes.LapsedBefore (now - s.limits.max_idle) ∷ []) []
      ++ changes.NumbersUpTo (number_of at) ∷ changes.Began at name now ∷ []))
      (state_after s now (Begins name at))) (sym as_many)
      (begun_after (nat_le s.limits.max_open (map.len s.sessions)) name at (new_number s secret at refl room.numbers_left))

  -- ---- a chunk

  abbrev with_chunk : List ℕ → List ℕ → List ℕ → State
  with_chunk name at received =
      record s { sessions = map.insert s.sessions at (record { name = name; received = received; seen = now }) }

  seen_only : (name at received : List ℕ) (found : Found s now name at) → found.session.received ≡ received
      → Agrees disk (fold c (seen_by c at now)) (with_chunk name at received)
  seen_only name at received found same_bytes =
      let (u, is, q) = both_some (IsUpload disk) (map.get c.uploads at) (map.get s.sessions at) found.session
      (a.uploads at) found.is_open in
      let had : (seen : ℕ) → seen ≡ now
      → IsUpload disk (record u { seen = seen }) (record { name = name; received = received; seen = now }) =
      λ seen e. record {
        name = q.name ∙ found.named;
        bytes = q.bytes ∙ same_bytes;
        seen = e;
        sized = q.sized ∙ ap length same_bytes;
      } in
      subst (λ b. Agrees disk (fold c (cond b [] (changes.Seen at now ∷ []))) (with_chunk name at received))
      (sym (ap (λ o. was_seen o now) is))
      (elim (u.seen == now) as (λ b. (u.seen == now) ≡ b
      → Agrees disk (fold c (cond b [] (changes.Seen at now ∷ []))) (with_chunk name at received)) [
        | true ↦ λ e. record {
          uploads =
              agree-kept (IsUpload disk) nat_list_cmp_total eq_from_same c.uploads s.sessions at u _ a.uploads is
              (had u.seen (eqb-true u.seen now e));
          blobs = a.blobs;
          pairs = a.pairs;
          issued = a.issued;
        }
        | false ↦ λ e. record {
          uploads =
              subst (λ o. Agree (IsUpload disk) (with_any c.uploads at (seen_at o now))
              (with_chunk name at received).sessions) (sym is)
              (agree-insert (IsUpload disk) nat_list_cmp_total c.uploads s.sessions at (record u { seen = now }) _
              a.uploads (had now refl));
          blobs = a.blobs;
          pairs = a.pairs;
          issued = a.issued;
        }
      ] refl)

  takes_some : (name at : List ℕ) (body : List ℕ) (found : Found s now name at) → disk place ≡ body
      → Agrees disk
      (fold c (changes.Took at now (length (found.session.received ++ body) - length body)
      (record { place = place; end = length (found.session.received ++ body) }) ∷ []))
      (with_chunk name at (found.session.received ++ body))
  takes_some name at body found here =
      let received : List ℕ = found.session.received in
      let stretch : Stretch = record { place = place; end = length (received ++ body) } in
      let from : ℕ = length (received ++ body) - length body in
      let (u, is, q) = both_some (IsUpload disk) (map.get c.uploads at) (map.get s.sessions at) found.session
      (a.uploads at) found.is_open in
      let fits : end_of u.bodies ≡ from =
      (let sized : end_of u.bodies ≡ length received = q.sized in omega (arith, length-append received body)) in
      let now_is : taken (map.get c.uploads at) now from stretch
      ≡ Some (record { name = u.name; bodies = u.bodies ++ stretch ∷ []; seen = now }) =
      ap (λ o. taken o now from stretch) is
      ∙ ap (option_map (λ bodies. record { name = u.name; bodies = bodies; seen = now })) (joined_fits u.bodies from stretch fits) in
      record {
        uploads =
            subst (λ o. Agree (IsUpload disk) (with_claim c.uploads at o)
            (map.insert s.sessions at (record { name = name; received = received ++ body; seen = now }))) (sym now_is)
            (agree-insert (IsUpload disk) nat_list_cmp_total c.uploads s.sessions at _ _ a.uploads
            (record {
              name = q.name ∙ found.named;
              bytes = pushed_bytes disk u.bodies stretch received body q.bytes here;
              seen = refl;
              sized = end-push 0 u.bodies stretch;
            }));
        blobs = a.blobs;
        pairs = a.pairs;
        issued = a.issued;
      }

  takes : (name at : List ℕ) (range : Extent) (body : List ℕ) (found : Found s now name at)
      → Follows (asks.Chunk name at range body) (Takes name at (found.session.received ++ body))
  takes name at range body found here kept =
      elim (length body == 0) as (λ b. (length body == 0) ≡ b
      → Agrees disk
      (fold c (cond b (seen_by c at now)
      (changes.Took at now (length (found.session.received ++ body) - length body)
      (record { place = place; end = length (found.session.received ++ body) }) ∷ [])))
      (with_chunk name at (found.session.received ++ body))) [
        | true ↦ λ e.
            seen_only name at (found.session.received ++ body) found
            (sym (ap (λ xs. found.session.received ++ xs) (empty body (eqb-true (length body) 0 e))
            ∙ append-nil found.session.received))
        | false ↦ λ e. takes_some name at body found (here refl refl (positive (length body) e))
      ] refl

  -- ---- a pair

  paired : (d : Claims) (name : List ℕ) (digest : Digest) → d.pairs ≡ c.pairs
      → fold d (has_by c name digest) ≡ record d { pairs = set.insert d.pairs (name, digest) }
  paired d name digest same =
      elim (set.contains c.pairs (name, digest)) as (λ b. set.contains c.pairs (name, digest) ≡ b
      → fold d (cond b [] (changes.Has name digest ∷ [])) ≡ record d { pairs = set.insert d.pairs (name, digest) }) [
        | true ↦ λ e.
            ap (λ ps. record d { pairs = ps })
            (sym (insert_there d.pairs (name, digest) (ap (λ ps. set.contains ps (name, digest)) same ∙ e)))
        | false ↦ λ e. refl
      ] refl

  -- changes of the uploads and the blobs, and then a pair
  and_has : (xs : List Change) (name : List ℕ) (digest : Digest) (t : State) → t.pairs ≡ s.pairs
      → Agrees disk (fold c xs) t
      → Agrees disk (fold c (xs ++ has_by c name digest)) (record t { pairs = set.insert t.pairs (name, digest) })
  and_has xs name digest t same h =
      subst (λ d. Agrees disk d (record t { pairs = set.insert t.pairs (name, digest) }))
      (sym (fold-append c xs (has_by c name digest)
      ∙ paired (fold c xs) name digest (h.pairs ∙ same ∙ sym a.pairs)))
      (record {
        uploads = h.uploads;
        blobs = h.blobs;
        pairs = ap (λ ps. set.insert ps (name, digest)) h.pairs;
        issued = h.issued;
      })

  -- ---- a close

  abbrev without_session : List ℕ → Digest → List ℕ → State
  without_session at digest blob =
      record s { sessions = map.remove s.sessions at; blobs = map.insert s.blobs digest blob }

  closes : (m : Table Upload) (at : List ℕ) (digest : Digest) (end : ℕ) (u : Upload) (blob : List ℕ)
      → map.get m at ≡ Some u → end_of u.bodies ≡ end → bytes_in disk u.bodies ≡ blob → end ≡ length blob
      → map.remove m at ≡ map.remove c.uploads at
      → Agrees disk (apply (record c { uploads = m }) (changes.Closed at digest end)) (without_session at digest blob)
  closes m at digest end u blob is ended bytes sized left =
      let is_closed : closed (map.get m at) end ≡ Some u.bodies = ap (λ o. closed o end) is
      ∙ ap (λ b. cond b (Some u.bodies) None) (eq-eqb (end_of u.bodies) end ended) in
      record {
        uploads =
            subst (λ n. Agree (IsUpload disk) n (map.remove s.sessions at)) (sym left)
            (agree-remove (IsUpload disk) nat_list_cmp_total c.uploads s.sessions at a.uploads);
        blobs =
            subst (λ o. Agree (IsBlob disk) (with_any c.blobs digest o) (map.insert s.blobs digest blob)) (sym is_closed)
            (agree-insert (IsBlob disk) digests_total c.blobs s.blobs digest u.bodies blob a.blobs
            (record { bytes = bytes; sized = ended ∙ sized }));
        pairs = a.pairs;
        issued = a.issued;
      }

  -- with a last chunk of bytes, or of none
  closes_behind : (at : List ℕ) (digest : Digest) (received body : List ℕ) (u : Upload)
      → map.get c.uploads at ≡ Some u → bytes_in disk u.bodies ≡ received → end_of u.bodies ≡ length received
      → (0 < length body → disk place ≡ body) → (b : Bool) → (length body == 0) ≡ b
      → Agrees disk
      (fold c (cond b [] (changes.Took at now (end_of u.bodies)
      (record { place = place; end = end_of u.bodies + length body }) ∷ [])
      ++ changes.Closed at digest (end_of u.bodies + length body) ∷ []))
      (without_session at digest (received ++ body))
  closes_behind at digest received body u is bytes sized here true e =
      let none : length body ≡ 0 = eqb-true (length body) 0 e in
      closes c.uploads at digest (end_of u.bodies + length body) u (received ++ body) is (omega (arith, none))
      (bytes ∙ sym (ap (λ xs. received ++ xs) (empty body none) ∙ append-nil received))
      (ap (λ n. n + length body) sized ∙ sym (length-append received body)) refl
  closes_behind at digest received body u is bytes sized here false e =
      let stretch : Stretch = record { place = place; end = end_of u.bodies + length body } in
      let more : Upload = record { name = u.name; bodies = u.bodies ++ stretch ∷ []; seen = now } in
      let now_is : taken (map.get c.uploads at) now (end_of u.bodies) stretch ≡ Some more =
      ap (λ o. taken o now (end_of u.bodies) stretch) is
      ∙ ap (option_map (λ bodies. record { name = u.name; bodies = bodies; seen = now }))
      (joined_fits u.bodies (end_of u.bodies) stretch refl) in
      subst (λ o. Agrees disk
      (apply (record c { uploads = with_claim c.uploads at o }) (changes.Closed at digest (end_of u.bodies + length body)))
      (without_session at digest (received ++ body))) (sym now_is)
      (closes (map.insert c.uploads at more) at digest (end_of u.bodies + length body) more (received ++ body)
      (get-insert_same nat_list_cmp_total keys_exact c.uploads at more) (end-push 0 u.bodies stretch)
      (pushed_bytes disk u.bodies stretch received body bytes (here (positive (length body) e)))
      (ap (λ n. n + length body) sized ∙ sym (length-append received body))
      (remove-insert nat_list_cmp_total keys_exact c.uploads at more))

  commits : (name at : List ℕ) (range : Extent) (digest : Digest) (body : List ℕ) (found : Found s now name at)
      → Follows (asks.Close name at range (Some digest) body) (Commits name at digest (found.session.received ++ body))
  commits name at range digest body found here kept =
      let received : List ℕ = found.session.received in
      let (u, is, q) = both_some (IsUpload disk) (map.get c.uploads at) (map.get s.sessions at) found.session
      (a.uploads at) found.is_open in
      and_has (closed_by c (note (asks.Close name at range (Some digest) body)) at digest (length body)) name digest
      (without_session at digest (received ++ body)) refl
      (subst (λ n. Agrees disk
      (fold c (cond (length body == 0) [] (changes.Took at now n (record { place = place; end = n + length body }) ∷ [])
      ++ changes.Closed at digest (n + length body) ∷ [])) (without_session at digest (received ++ body)))
      (sym (ap received_by is))
      (closes_behind at digest received body u is q.bytes q.sized (here refl refl) (length body == 0) refl))

  -- ---- a blob that comes whole

  abbrev with_stored : Digest → List ℕ → State
  with_stored digest body = record s { blobs = map.insert s.blobs digest body }

  stores_by : (name : List ℕ) (digest : Digest) (body : List ℕ) → (known ≡ true → HasBytes disk c digest body)
      → (known ≡ false → 0 < length body → disk place ≡ body) → (k b : Bool) → known ≡ k → (length body == 0) ≡ b
      → Agrees disk
      (fold c (cond k [] (cond b (changes.Laid digest ∷ [])
      (changes.Stored digest (record { place = place; end = length body }) ∷ [])))) (with_stored digest body)
  stores_by name digest body held here true b k e =
      let (bodies, is, bytes) = held k in
      let (blob, there, q) = both_there (IsBlob disk) (map.get c.blobs digest) (map.get s.blobs digest) bodies
      (a.blobs digest) is in
      record {
        uploads = a.uploads;
        blobs =
            agree-kept (IsBlob disk) digests_total eq_from_same_digest c.blobs s.blobs digest bodies body a.blobs is
            (record { bytes = bytes; sized = q.sized ∙ ap length (sym q.bytes ∙ bytes) });
        pairs = a.pairs;
        issued = a.issued;
      }
  stores_by name digest body held here false true k e =
      let none : length body ≡ 0 = eqb-true (length body) 0 e in
      record {
        uploads = a.uploads;
        blobs =
            agree-insert (IsBlob disk) digests_total c.blobs s.blobs digest [] body a.blobs
            (record { bytes = sym (empty body none); sized = sym none });
        pairs = a.pairs;
        issued = a.issued;
      }
  stores_by name digest body held here false false k e = record {
    uploads = a.uploads;
    blobs =
        agree-insert (IsBlob disk) digests_total c.blobs s.blobs digest _ _ a.blobs
        (record { bytes = append-nil (disk place) ∙ here k (positive (length body) e); sized = refl });
    pairs = a.pairs;
    issued = a.issued;
  }

  stores : (name : List ℕ) (digest : Digest) (body : List ℕ)
      → Follows (asks.Single name (Some digest) body) (Stores name digest body)
  stores name digest body here kept =
      and_has (blob_by (note (asks.Single name (Some digest) body)) digest (length body)) name digest
      (with_stored digest body) refl
      (stores_by name digest body kept (here refl) known (length body == 0) refl refl)

  same : Agrees disk c (record s { issued = s.issued })
  same = record { uploads = a.uploads; blobs = a.blobs; pairs = a.pairs; issued = a.issued }

  mounts : (name : List ℕ) (digest : Digest) (source : List ℕ)
      → Follows (asks.Mount name digest source) (Mounts name digest)
  mounts name digest source here kept = and_has [] name digest s refl same

  each : (secret : List ℕ) → HoldsOfEach s secret now Follows
  each secret = record {
    refusals = λ ask refusal here kept. same;
    base = λ here kept. same;
    blobs = λ name digest head blob held is here kept. same;
    openings = λ name room. begun (asks.Opening name) name secret room;
    unmounted = λ name digest source room. begun (asks.Mount name digest source) name secret room;
    mounts = λ name digest source held. mounts name digest source;
    stores = λ name digest body own. stores name digest body;
    standing = λ name at found here kept. same;
    misses = λ name at act found first aims missed here kept. same;
    takes = λ name at range body found fits. takes name at range body found;
    commits = λ name at range digest body found own. commits name at range digest body found;
  }

  pub follows : (ask : Ask) (secret : List ℕ) → Follows ask (outcome s ask secret now)
  follows ask secret = by_ask s secret now Follows (each secret) ask

-- the claims after an exchange agree with the state after it
pub agrees_after : (disk : Disk) (c : Claims) (s : State) (x : Served) (t : State) → Agrees disk c s
    → IsThere disk x.place x.known x.exchange.ask x.exchange.answer → IsKnown disk c x.known x.exchange.ask
    → Turn s x.exchange.ask x.exchange.secret x.exchange.now x.exchange.answer t
    → (Agrees disk (fold c (changes_of s.limits c x)) t) × (t.limits ≡ s.limits)
unfolding Turn
agrees_after disk c s x t a there kept (inl (e, is)) =
    let o : Outcome = outcome s x.exchange.ask x.exchange.secret x.exchange.now in (
      subst (λ answer. Agrees disk (fold c (changes_by s.limits c (noted_of x) answer)) t) (sym e)
          (subst (Agrees disk (fold c (changes_by s.limits c (noted_of x) (answer_of o)))) (sym is)
          (follows disk c s a x.place x.known x.exchange.now x.exchange.ask x.exchange.secret
          (subst (IsThere disk x.place x.known x.exchange.ask) e there) kept)),
      ap (λ q. q.limits) is,
    )
agrees_after disk c s x t a there kept (inr (may, e, is)) = (
  subst (λ answer. Agrees disk (fold c (changes_by s.limits c (noted_of x) answer)) t) (sym e)
      (subst (Agrees disk c) (sym is) a),
  ap (λ q. q.limits) is,
)
