-- How the books of a keeping go on.
use Rattle.std.proofs.Common.{◌≡◌, ◌≢◌, ◌∙◌, ⊎_elim, ℕ, Bool, true, false, true≢false, List, [], ◌∷◌, ◌++◌, Option}
use Rattle.std.proofs.Common.{Some, None}
use Rattle.std.proofs.Common.{refl, sym, ap, subst, arith, append-nil, append_assoc, IsTrue, rules}
use Rattle.std.specs.List.{flat_map}
use Rattle.std.specs.Option.{is_some}
use Rattle.std.specs.Result.{result_err}
use Rattle.std.specs.Prelude.{Result, Ok, Err, OnOk, IfSome}
use Rattle.std.specs.List.{All}
use Rattle.std.proofs.lemmas.List.{map-append}
use Rattle.std.proofs.lemmas.List.Concat.{flat_map-append}
use Rattle.std.proofs.lemmas.List.Elements.{All-nil, All-weaker}
use Rattle.sqlite_disk.specs.declared.Disk.{Ghosts}
use Rattle.bodies.specs.Shelf.{KeepsOthers}
use Rattle.bodies.specs.declared.shelf.Shelf as shelves
use Rattle.journal.specs.Format.{Kept, stored}
use Rattle.journal.specs.Journal as journals
use Rattle.journal.specs.declared.journal.Journal.{Journal}
use Rattle.journal.specs.Batch.{batch_records}
use Rattle.journal.specs.declared.batch.Batch.{Batch}
use Rattle.upload_service.specs.Machine.{empty_state}
use Rattle.upload_service.specs.Run.{Exchange}
use Rattle.upload_journal.specs.declared.body.BodyFile.{BodyFile}
use Rattle.upload_journal.specs.Replay.{Point}
use Rattle.upload_store.specs.Found.{texts_of, found, numbers_of}
use Rattle.upload_store.specs.Runs.{IsReplayOf, start_of}
use Rattle.upload_store.specs.Reading.{ReadsOnly}
use Rattle.upload_store.specs.Safe.{IsSafe, HasSafe, AreSafe}
use Rattle.upload_store.specs.Store.{IsClean, IsWhole, MayLeave, kept_of, shelf_of, journal_of, is_open, limits_of}
use Rattle.upload_store.specs.Store.{entries_of}
use Rattle.upload_store.specs.declared.store.Store.{Store}
use Rattle.upload_keeping.specs.Keeping.{Holds, Leaves, Settled, Awaits, Goes, LeavesJustThat, LeavesEither, KeepsBoth}
use Rattle.upload_keeping.specs.Keeping.{Aside}
use Rattle.upload_keeping.specs.Books.{AreKept, LeavesFront, WithoutIt}
use Rattle.upload_keeping.specs.Books.{recorded_by, recorded_in, kept_in, waiting_in, opened_in, since_in}
use Rattle.upload_keeping.specs.declared.books.Recorded.{Recorded}
use Rattle.upload_keeping.specs.declared.fault.KeepFault.{KeepFault}
use Rattle.upload_keeping.specs.declared.books.Books.{Books}
use Rattle.upload_keeping.proofs.Crashes.{same_left}
use Rattle.upload_keeping.proofs.Holding.{holds_still, holds_none}
use Rattle.upload_store.proofs.Naming.{replays_named}

pub one_more_waits : (old new : List Recorded) (r : Recorded) (x : Exchange) → new ≡ old ++ r ∷ [] → recorded_by r ≡ x
    → recorded_in new ≡ recorded_in old ++ x ∷ []
one_more_waits old new r x more same = search (rules, arith, map-append)

pub one_round_more : (old new : List (List Recorded)) (round : List Recorded) → new ≡ old ++ round ∷ []
    → flat_map recorded_in new ≡ flat_map recorded_in old ++ recorded_in round
one_round_more old new round more = search (rules, arith, flat_map-append, append-nil)

pub first_none : (front rest : List Exchange) → front ++ rest ≡ [] → front ≡ []
first_none [] rest e = refl
first_none (x ∷ front) rest e = absurd cc

-- a test of whether there is a fault
pub is_fault : (o : Option KeepFault) (b : Bool) → b ≡ is_some o → b ≡ true → o ≢ None
is_fault None b is some e = true≢false (sym some ∙ is)
is_fault (Some fault) b is some e = cc

pub is_fine : (o : Option KeepFault) (b : Bool) → b ≡ is_some o → b ≡ false → o ≡ None
is_fine None b is none = refl
is_fine (Some fault) b is none = absurd (true≢false (sym is ∙ none))

-- what was put, if there is no fault of it
pub was_put : (P : Type 0) (put : Result (Unit {0}) KeepFault) (o : Option KeepFault) → o ≡ result_err put → OnOk put P
    → o ≡ None → P
was_put P (Ok x) o is holds none = holds
was_put P (Err fault) o is holds none = absurd (let e : Some fault ≡ None = sym is ∙ none in cc)

module _ {D S F : Type 0} {g : Ghosts D} {s : shelves.Ghosts S F} {f : Ghosts F} where
  pub goes_nowhere : (store : Store D S F g s f) → Goes store store
  goes_nowhere store = record { safe = λ clean n bytes safe. safe; clean = λ clean. clean }

  pub goes_twice : (a b c : Store D S F g s f) → Goes a b → Goes b c → Goes a c
  goes_twice a b c p q = record {
    safe = λ clean n bytes safe. q.safe clean n bytes (p.safe (q.clean clean) n bytes safe);
    clean = λ clean. p.clean (q.clean clean);
  }

  -- a store that was just opened
  pub settled_at_first : (store : Store D S F g s f) (since : ℕ) → IsTrue (is_open store)
      → Settled store since [] since store
  settled_at_first store since is_open = search (rules, arith, All-nil, append-nil)

  -- bodies were put on the shelf, and the journal is as it was
  pub settled_still : (opened old new : Store D S F g s f) (since : ℕ) (kept : List Exchange) (upto : ℕ)
      → Settled opened since kept upto old → journal_of new ≡ journal_of old → (IsWhole old → IsWhole new)
      → Goes old new → Settled opened since kept upto new
  settled_still opened old new since kept upto settled same whole goes = record {
    stays_open = subst (λ (j : Journal D g). IsTrue (journals.is_open j)) (sym same) settled.stays_open;
    whole = λ was. whole (settled.whole was);
    holds = λ clean.
        holds_still (IsSafe s.held s.may_leave (shelf_of old)) (IsSafe s.held s.may_leave (shelf_of new))
        (goes.safe clean) (texts_of (kept_of opened)) since kept upto (texts_of (kept_of new))
        (subst (λ (j : Journal D g). Holds (IsSafe s.held s.may_leave (shelf_of old)) (texts_of (kept_of opened)) since
        kept upto (texts_of (journals.kept j))) (sym same) (settled.holds (goes.clean clean)));
  }

  -- the shelf is as it was
  pub goes_by_shelf : (old new : Store D S F g s f) → shelf_of new ≡ shelf_of old → (IsClean new → IsClean old)
      → Goes old new
  goes_by_shelf old new same clean = search (rules, arith)

  whole_still : (old new : Store D S F g s f) → journal_of new ≡ journal_of old → Goes old new → IsWhole old
      → IsWhole new
  whole_still old new same goes whole clean =
      let Was : ℕ → Type 0 = HasSafe s.held s.may_leave (shelf_of old) in
      let Is : ℕ → Type 0 = HasSafe s.held s.may_leave (shelf_of new) in
      subst (λ (j : Journal D g). AreSafe s.held s.may_leave (shelf_of new) (texts_of (journals.kept j))) (sym same)
      (All-weaker (λ (text : List ℕ). All Was (numbers_of text)) (λ (text : List ℕ). All Is (numbers_of text))
      (λ text here. All-weaker Was Is (λ n h. (h.0, goes.safe clean n h.0 h.1)) (numbers_of text) here)
      (texts_of (kept_of old)) (whole (goes.clean clean)))

  -- a file of a number that had none takes nothing that is safe
  pub goes_aside : (old new : Store D S F g s f) (number : ℕ) → Aside old new number → Goes old new
  goes_aside old new number a = search (rules, arith)

  -- nor does it when it goes
  pub aside_then : (before old new : Store D S F g s f) (number : ℕ) → Aside before old number
      → KeepsOthers s.held s.may_leave (shelf_of old) (shelf_of new) number → (IsClean new → IsClean old)
      → Aside before new number
  aside_then before old new number a others clean = record {
    free = λ c. a.free (clean c);
    others = record {
      each = λ n apart.
          let p = a.others.each n apart in
          let q = others.each n apart in
          record { same = q.same ∙ p.same; left = λ file may. p.left file (q.left file may) };
    };
    clean = λ c. a.clean (clean c);
  }

  -- what was kept is left alone, or with all that waited
  pub front_none : (b : Books D S F g s f) (file : List ℕ) (files : ℕ → Option (List ℕ))
      → Leaves (opened_in b) (since_in b) (kept_in b) b.upto file files → LeavesFront b file files
  front_none b file files leaves = search (rules, arith, append-nil)

  pub front_all : (b : Books D S F g s f) (file : List ℕ) (files : ℕ → Option (List ℕ))
      → Leaves (opened_in b) (since_in b) (kept_in b ++ waiting_in b) b.upto file files → LeavesFront b file files
  front_all b file files leaves = search (rules, arith, append-nil)

  -- ---- what the books are at first

  pub kept_at_first : (b : Books D S F g s f) → IsTrue (is_open b.store) → b.fault ≡ None → opened_in b ≡ b.store
      → since_in b ≡ b.upto → kept_in b ≡ [] → waiting_in b ≡ [] → batch_records b.batch ≡ []
      → (IsTrue b.is_whole → IsClean b.store → IsReplayOf (kept_of b.store) (s.held (shelf_of b.store))
      (start_of (empty_state (limits_of b.store) 0)) b.start.value) → AreKept b
  kept_at_first b up fine opened since none waits batch ran =
      grind (arith, goes_nowhere b.store, settled_at_first b.store b.upto up)

  -- ---- how they go on

  module _ (b : Books D S F g s f) (k : AreKept b) where
    pub kept_later : (last : ℕ) → AreKept (record b { last = last })
    kept_later last = record {
      begun = k.begun;
      goes = k.goes;
      going = λ fine. let go = k.going fine in record { settled = go.settled; awaits = go.awaits };
      idle = k.idle;
      left = λ failed clean whole file files may.
          let l = k.left failed clean whole file files may in
          record { front = l.front; rest = l.rest; split = l.split; leaves = l.leaves };
    }

    -- its store went on
    module _ (fine : b.fault ≡ None) (store : Store D S F g s f) (goes : Goes b.store store) where
      on : Goes (opened_in b) store
      on = goes_twice (opened_in b) b.store store k.goes goes

      still_awaits : Awaits (waiting_in b) (batch_records b.batch) store
      still_awaits clean =
          holds_still (IsSafe s.held s.may_leave (shelf_of b.store)) (IsSafe s.held s.may_leave (shelf_of store))
          (goes.safe clean) [] 0 (waiting_in b) 0 (batch_records b.batch) ((k.going fine).awaits (goes.clean clean))

      -- with files of bodies alone
      module _ (same : journal_of store ≡ journal_of b.store) where
        moved : Settled (opened_in b) (since_in b) (kept_in b) b.upto store
        moved =
            settled_still (opened_in b) b.store store (since_in b) (kept_in b) b.upto (k.going fine).settled same
            (whole_still b.store store same goes) goes

        pub kept_moved : AreKept (record b { store = store })
        kept_moved = record {
          begun = k.begun;
          goes = on;
          going = λ _. record { settled = moved; awaits = still_awaits };
          idle = k.idle;
          left = λ failed. absurd (failed fine);
        }

        -- or one that failed
        pub kept_stopped : (fault : KeepFault) → LeavesJustThat store
            → AreKept (record b { store = store; fault = Some fault })
        kept_stopped fault just =
            let new : Books D S F g s f = record b { store = store; fault = Some fault } in
            let none : Some fault ≡ None → ⊥ = (λ e. cc) in
            record {
              begun = k.begun;
              goes = on;
              going = λ e. absurd (none e);
              idle = k.idle;
              left = λ _ clean was file files may.
                  front_none new file files
                  (just (opened_in b) (since_in b) (kept_in b) b.upto on moved clean was file files may);
            }

      -- with room in the journal
      module _ (same : shelf_of store ≡ shelf_of b.store) where
        pub kept_with_room : IsTrue (is_open store) → (IsClean store → kept_of store ≡ kept_of b.store)
            → AreKept (record b { store = store })
        kept_with_room up kept = record {
          begun = k.begun;
          goes = on;
          going = λ _. record {
            settled = record {
              stays_open = up;
              whole = λ was clean.
                  subst (λ (y : S × List Kept). AreSafe s.held s.may_leave y.0 (texts_of y.1))
                  (λ i. (sym same i, sym (kept clean) i)) ((k.going fine).settled.whole was (goes.clean clean));
              holds = λ clean.
                  subst (λ (y : S × List Kept).
                  Holds (IsSafe s.held s.may_leave y.0) (texts_of (kept_of (opened_in b))) (since_in b) (kept_in b)
                  b.upto
                  (texts_of y.1)) (λ i. (sym same i, sym (kept clean) i))
                  ((k.going fine).settled.holds (goes.clean clean));
            };
            awaits = still_awaits;
          };
          idle = k.idle;
          left = λ failed. absurd (failed fine);
        }

        -- or with none, and shut
        pub kept_shut : (fault : KeepFault)
            → (IsTrue (is_open b.store) → IsClean store → IsWhole b.store → (file : List ℕ)
            (files : ℕ → Option (List ℕ)) → MayLeave store file files
            → found (stored file) files ≡ entries_of b.store)
            → AreKept (record b { store = store; fault = Some fault })
        kept_shut fault left =
            let new : Books D S F g s f = record b { store = store; fault = Some fault } in
            let none : Some fault ≡ None → ⊥ = (λ e. cc) in
            let settled = (k.going fine).settled in
            record {
              begun = k.begun;
              goes = on;
              going = λ e. absurd (none e);
              idle = k.idle;
              left = λ _ clean was file files may.
                  front_none new file files
                  (same_left (opened_in b) b.store store (since_in b) (kept_in b) b.upto k.goes settled goes same file
                  files clean may (left settled.stays_open clean (settled.whole was) file files may));
            }

    -- a file that nothing names was written
    pub alone_made : (store before : Store D S F g s f) (file : Option BodyFile) → before ≡ b.store
        → journal_of store ≡ journal_of b.store → IfSome file (λ (it : BodyFile). Aside b.store store it.number)
        → IfSome file (λ (it : BodyFile). WithoutIt (record b { store = store }) before it.number)
    alone_made store before None is same aside = tt
    alone_made store before (Some file) is same aside = search (rules, arith)

    -- one exchange more waits
    module _ (x : Exchange) (waiting : List Recorded) (more : recorded_in waiting ≡ waiting_in b ++ x ∷ []) where
      -- which is not kept
      pub kept_no_more : b.fault ≢ None → AreKept (record b { waits = true; waiting = waiting })
      kept_no_more failed = record {
        begun = k.begun;
        goes = k.goes;
        going = λ fine. absurd (failed fine);
        idle = λ e. absurd (true≢false e);
        left = λ _ clean whole file files may.
            let l = k.left failed clean whole file files may in
            record {
              front = l.front;
              rest = l.rest ++ x ∷ [];
              split =
                  more ∙ ap (λ (w : List Exchange). w ++ x ∷ []) l.split ∙ append_assoc l.front l.rest (x ∷ []);
              leaves = l.leaves;
            };
      }

      module _ (fine : b.fault ≡ None) (store : Store D S F g s f) (batch : Batch) (fault : Option KeepFault)
          (same : journal_of store ≡ journal_of b.store) (whole : IsWhole b.store → IsWhole store)
          (goes : Goes b.store store) (just : LeavesJustThat store)
          (put : fault ≡ None → (xs : List Exchange) → IsClean store → Awaits xs (batch_records b.batch) b.store
          → Awaits (xs ++ x ∷ []) (batch_records batch) store) where
        abbrev with_it : Books D S F g s f
        with_it =
            record b { store = store; batch = batch; waits = true; fault = fault; waiting = waiting }

        settled : Settled (opened_in b) (since_in b) (kept_in b) b.upto store
        settled =
            settled_still (opened_in b) b.store store (since_in b) (kept_in b) b.upto (k.going fine).settled same whole
            goes

        both_go : Goes (opened_in b) store
        both_go = goes_twice (opened_in b) b.store store k.goes goes

        pub kept_more : AreKept with_it
        kept_more = record {
          begun = k.begun;
          goes = both_go;
          going = λ still. record {
            settled = settled;
            awaits = λ clean.
                subst (λ (w : List Exchange).
                Holds (IsSafe s.held s.may_leave (shelf_of store)) [] 0 w 0 (batch_records batch)) (sym more)
                (put still (waiting_in b) clean (k.going fine).awaits clean);
          };
          idle = λ e. absurd (true≢false e);
          left = λ _ clean was file files may.
              front_none with_it file files
              (just (opened_in b) (since_in b) (kept_in b) b.upto both_go settled clean was file files may);
        }

    -- nothing waited
    pub kept_nothing : (kept : List (List Recorded)) (waiting : List Recorded) → b.waits ≡ false
        → flat_map recorded_in kept ≡ kept_in b ++ waiting_in b → recorded_in waiting ≡ []
        → AreKept (record b { kept = kept; waiting = waiting })
    kept_nothing kept waiting idle all none =
        let new : Books D S F g s f = record b { kept = kept; waiting = waiting } in
        let was : waiting_in b ≡ [] = k.idle idle in
        let same : kept_in new ≡ kept_in b =
        all ∙ ap (λ (w : List Exchange). kept_in b ++ w) was ∙ append-nil (kept_in b) in
        record {
          begun = k.begun;
          goes = k.goes;
          going = λ fine.
              let go = k.going fine in
              record {
                settled =
                    subst (λ (xs : List Exchange). Settled (opened_in b) (since_in b) xs b.upto b.store) (sym same)
                    go.settled;
                awaits =
                    subst (λ (w : List Exchange). Awaits w (batch_records b.batch) b.store) (was ∙ sym none) go.awaits;
              };
          idle = λ _. none;
          left = λ failed clean whole file files may.
              let l = k.left failed clean whole file files may in
              let front : l.front ≡ [] = first_none l.front l.rest (sym l.split ∙ was) in
              front_none new file files
              (subst (λ (xs : List Exchange). Leaves (opened_in b) (since_in b) xs b.upto file files)
              (ap (λ (w : List Exchange). kept_in b ++ w) front ∙ append-nil (kept_in b) ∙ sym same) l.leaves);
        }

    module _ (fine : b.fault ≡ None) (store : Store D S F g s f) (batch : Batch) where
      -- a round was kept
      pub kept_round : (next : ℕ) (kept : List (List Recorded)) (waiting : List Recorded)
          → KeepsBoth b.upto next (batch_records b.batch) b.store store → batch_records batch ≡ []
          → flat_map recorded_in kept ≡ kept_in b ++ waiting_in b → recorded_in waiting ≡ []
          → AreKept (record b {
            store = store;
            batch = batch;
            upto = next;
            waits = false;
            kept = kept;
            waiting = waiting;
          })
      kept_round next kept waiting both empty all none =
          let go = k.going fine in
          let on = both (opened_in b) (since_in b) (kept_in b) (waiting_in b) k.goes go.settled go.awaits in
          record {
            begun = k.begun;
            goes = on.1;
            going = λ _. record {
              settled =
                  subst (λ (xs : List Exchange). Settled (opened_in b) (since_in b) xs next store) (sym all) on.0;
              awaits = λ clean.
                  subst (λ (y : List Exchange × List (List ℕ)).
                  Holds (IsSafe s.held s.may_leave (shelf_of store)) [] 0 y.0 0 y.1)
                  (λ i. (sym none i, sym empty i)) (holds_none (IsSafe s.held s.may_leave (shelf_of store)));
            };
            idle = λ _. none;
            left = λ failed. absurd (failed fine);
          }

      -- or it was not
      pub kept_before : (fault : KeepFault) → LeavesEither b.upto (batch_records b.batch) b.store store
          → Goes b.store store → AreKept (record b { store = store; batch = batch; fault = Some fault })
      kept_before fault either goes =
          let new : Books D S F g s f = record b { store = store; batch = batch; fault = Some fault } in
          let go = k.going fine in
          let none : Some fault ≡ None → ⊥ = (λ e. cc) in
          record {
            begun = k.begun;
            goes = goes_twice (opened_in b) b.store store k.goes goes;
            going = λ e. absurd (none e);
            idle = k.idle;
            left = λ _ clean whole file files may.
                ⊎_elim (front_none new file files) (front_all new file files)
                (either (opened_in b) (since_in b) (kept_in b) (waiting_in b) k.goes go.settled go.awaits clean whole
                file files may);
          }

  -- and is removed
  pub kept_without : (b : Books D S F g s f) (before store : Store D S F g s f) (number : ℕ) → b.fault ≡ None
      → WithoutIt b before number → journal_of store ≡ journal_of b.store
      → KeepsOthers s.held s.may_leave (shelf_of b.store) (shelf_of store) number → (IsClean store → IsClean b.store)
      → AreKept (record b { store = store })
  kept_without b before store number fine w same others clean =
      kept_moved (record b { store = before }) w.kept fine store
      (goes_aside before store number (aside_then before b.store store number w.aside others clean)) (same ∙ w.journal)

  -- the bodies of a store that was recovered are on the disk, if nothing was under way on its shelf
  pub whole_at_rest : (old new : Store D S F g s f) (begin point : Point)
      → ReadsOnly s.held s.may_leave s.IsClean (shelf_of old) (shelf_of new)
      → (IsClean new → kept_of new ≡ kept_of old)
      → (IsClean new → IsReplayOf (kept_of old) (s.held (shelf_of new)) begin point)
      → ((n : ℕ) (left : Option (List ℕ)) → s.may_leave (shelf_of old) n left → left ≡ s.held (shelf_of old) n)
      → IsWhole new
  whole_at_rest old new begin point reads same ran rest clean =
      let is = ran clean in
      let Has : ℕ → Type 0 = HasSafe s.held s.may_leave (shelf_of new) in
      let Texts : List (List ℕ) → Type 0 = AreSafe s.held s.may_leave (shelf_of new) in
      subst Texts (sym (ap texts_of (same clean) ∙ is.texts))
      (replays_named Has (s.held (shelf_of new))
      (λ n bytes there. (
        bytes,
        record {
          there = there;
          stored = λ left may.
              let keeps = reads.all.each n in rest n left (keeps.left left may) ∙ sym keeps.same ∙ there;
        },
      )) begin is.entries point is.are_entries is.replays)
