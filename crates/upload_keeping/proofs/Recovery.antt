-- What is told is on the disk.
use Rattle.std.proofs.Common.{◌≤◌, ◌≡◌, ◌≢◌, ◌∙◌, ◌⊎◌, inl, inr, ⊎_elim, ℕ, List, [], ◌∷◌, ◌++◌, map, Option, Some}
use Rattle.std.proofs.Common.{None, refl, sym, ap, subst}
use Rattle.std.specs.Prelude.{is_some, filter, IsTrue}
use Rattle.std.proofs.Common.{arith, append_assoc, append-nil, rules}
use Rattle.std.specs.List.{All}
use Rattle.std.proofs.lemmas.List.{map-append}
use Rattle.std.proofs.lemmas.List.Elements.{All-append}
use Rattle.sqlite_disk.specs.declared.Disk.{Ghosts}
use Rattle.bodies.specs.declared.shelf.Shelf as shelves
use Rattle.upload_service.specs.declared.answer.Answer.{Answer}
use Rattle.upload_service.specs.Machine.{State, empty_state}
use Rattle.upload_service.specs.Run.{Exchange, Run, NeverBefore}
use Rattle.upload_keeper.specs.Restarts.{asked_of, AreRemembered, HasAnswer}
use Rattle.upload_keeper.specs.Log.{last_moment}
use Rattle.upload_keeper.specs.Safety.{Asked, MayBeHeard, changes, changed}
use Rattle.upload_keeper.proofs.Restarting.{told_is_kept}
use Rattle.upload_journal.specs.declared.entries.Entry.{Entry}
use Rattle.upload_journal.specs.Entries.{IsEntry, entry_text}
use Rattle.upload_journal.specs.Replay.{Point, Replays}
use Rattle.upload_journal.specs.Restart.{NeverAfter, changes_of}
use Rattle.upload_journal.specs.Short.{told_of}
use Rattle.upload_journal.proofs.Restart.{run_on, changes_are_enough}
use Rattle.journal.specs.Format.{stored}
use Rattle.upload_service.proofs.Serving.{empty_is_lawful}
use Rattle.upload_store.proofs.Reruns.{is_replay}
use Rattle.upload_store.specs.Found.{numbers_of}
use Rattle.upload_store.specs.Runs.{stands_in, start_of}
use Rattle.upload_store.specs.Safe.{HasSafe}
use Rattle.upload_store.specs.Store.{IsClean, IsWhole, MayLeave, shelf_of, limits_of}
use Rattle.upload_store.specs.declared.store.Store.{Store}
use Rattle.upload_keeping.specs.Keeping.{LeavesJustThat}
use Rattle.upload_keeping.specs.Books.{AreKept, LeavesFront, moment_of, start_in, kept_in, opened_in, since_in}
use Rattle.upload_keeping.specs.Books.{is_whole_in, waiting_in}
use Rattle.upload_keeping.specs.Told.{Recovers, HasTold, KeepsWhatIsTold, HoldsOverRestarts, CanBeRunAgain}
use Rattle.upload_keeping.specs.declared.books.Books.{Books}
use Rattle.upload_keeping.specs.declared.fault.KeepFault.{KeepFault}
use Rattle.upload_keeping.proofs.Replays.{same_entries, replays_same, replays_split, replays_moved, replays_on}
use Rattle.upload_keeping.proofs.Replays.{replays_there, runs_again}
use Rattle.upload_keeping.proofs.Going.{front_none, first_none}

heads : (a b : Asked) (ps qs : List Asked) → a ∷ ps ≡ b ∷ qs → a ≡ b
heads a b ps qs e = cc

tails : (a b : Asked) (ps qs : List Asked) → a ∷ ps ≡ b ∷ qs → ps ≡ qs
tails a b ps qs e = cc

none_is : (a : Asked) (ps : List Asked) → [] ≡ a ∷ ps → ⊥
none_is a ps e = cc

-- exchanges of the same requests as two lists, in two parts
record InTwo (xs ks rest : List Exchange) : Type 0 where
  pub front : List Exchange
  pub back : List Exchange
  pub split : xs ≡ front ++ back
  pub same : map asked_of front ≡ map asked_of ks
  pub others : map asked_of back ≡ map asked_of rest

in_two : (xs ks rest : List Exchange) → map asked_of xs ≡ map asked_of (ks ++ rest) → InTwo xs ks rest
in_two xs [] rest e = record { front = []; back = xs; split = refl; same = refl; others = e }
in_two [] (k ∷ ks) rest e = absurd (none_is (asked_of k) (map asked_of (ks ++ rest)) e)
in_two (x ∷ xs) (k ∷ ks) rest e =
    let first : asked_of x ≡ asked_of k =
    heads (asked_of x) (asked_of k) (map asked_of xs) (map asked_of (ks ++ rest)) e in
    let more =
    in_two xs ks rest (tails (asked_of x) (asked_of k) (map asked_of xs) (map asked_of (ks ++ rest)) e) in
    record {
      front = x ∷ more.front;
      back = more.back;
      split = ap (λ (l : List Exchange). x ∷ l) more.split;
      same = λ i. first i ∷ more.same i;
      others = more.others;
    }

run_in_two : (old : State) (xs ys : List Exchange) (new : State) → Run old (xs ++ ys) new
    → (mid : State) × Run old xs mid × Run mid ys new
run_in_two old [] ys new r = (old, refl, r)
run_in_two old (x ∷ xs) ys new r = search (rules, arith, run_in_two r.0 xs ys new r.2)

remembered_front : (xs ys : List Exchange) → AreRemembered (xs ++ ys) → AreRemembered xs
remembered_front [] ys m = tt
remembered_front (x ∷ xs) ys m = (m.0, remembered_front xs ys m.1)

before_front : (moment : ℕ) (xs ys : List Exchange) → NeverBefore moment (xs ++ ys) → NeverBefore moment xs
before_front moment [] ys n = tt
before_front moment (x ∷ xs) ys n = (n.0, before_front x.now xs ys n.1)

sooner : (moment later : ℕ) (xs : List Exchange) → moment ≤ later → NeverBefore later xs → NeverBefore moment xs
sooner moment later [] le n = tt
sooner moment later (x ∷ xs) le n = (omega (arith, le, n.0), n.1)

-- who went on has the answer still
has_still : (start : State) (xs : List Exchange) (mid : State) (heard : ℕ) (answer : Answer) (ys : List Exchange)
    (new : State) → HasAnswer start xs mid heard answer → Run mid ys new → HasAnswer start (xs ++ ys) new heard answer
has_still start xs mid heard answer ys new h on = record {
  before = h.before;
  after = h.after ++ ys;
  all = ap (λ (l : List Exchange). l ++ ys) h.all ∙ append_assoc h.before h.after ys;
  mid = h.mid;
  run = h.run;
  on = run_on h.mid h.after mid ys new h.on on;
  x = h.x;
  left = h.left;
  turn = h.turn;
  answer_is = h.answer_is;
  by = h.by;
  change = λ some.
      let c = h.change some in (c.0 ++ ys, ap (λ (l : List Exchange). l ++ ys) c.1);
}

-- an answer tells of a change if something is kept of it
tells : (answer : Answer) → is_some (told_of answer) ≡ changes answer
tells answer = search (rules, arith)

same_changes : (xs : List Exchange) → changes_of xs ≡ changed xs
same_changes xs = λ i. filter (λ (x : Exchange). tells x.answer i) xs

rises : (moment : ℕ) (xs : List Exchange) → NeverBefore moment xs → moment ≤ last_moment moment xs
rises moment [] n = omega arith
rises moment (x ∷ xs) n = omega (arith, n.0, rises x.now xs n.1)

never_after : (moment : ℕ) (xs : List Exchange) (upto : ℕ) → NeverBefore moment xs → last_moment moment xs ≤ upto
    → NeverAfter upto xs
never_after moment [] upto n le = tt
never_after moment (x ∷ xs) upto n le = (omega (arith, rises x.now xs n.1, le), never_after x.now xs upto n.1 le)

none_of : (xs : List Exchange) → map asked_of xs ≡ [] → xs ≡ []
none_of [] e = refl
none_of (x ∷ xs) e = absurd (none_is (asked_of x) (map asked_of xs) (sym e))

some_is : (a b : List ℕ) (o : Option (List ℕ)) → o ≡ Some a → o ≡ Some b → a ≡ b
some_is a b o p q = cc

fault_or_none : (o : Option KeepFault) → (o ≡ None) ⊎ (o ≢ None)
fault_or_none None = inl refl
fault_or_none (Some fault) = inr (λ e. cc)

module _ {D S F : Type 0} {g : Ghosts D} {s : shelves.Ghosts S F} {f : Ghosts F} where
  left_front : (b : Books D S F g s f) → AreKept b → LeavesJustThat b.store → IsClean b.store → IsWhole (opened_in b)
      → (file : List ℕ) (files : ℕ → Option (List ℕ)) → MayLeave b.store file files → LeavesFront b file files
  left_front b k just clean whole file files may =
      ⊎_elim
      (λ (fine : b.fault ≡ None).
      front_none b file files
      (just (opened_in b) (since_in b) (kept_in b) b.upto k.goes (k.going fine).settled clean whole file files may))
      (λ (failed : b.fault ≢ None). k.left failed clean whole file files may)
      (fault_or_none b.fault)

  module _ (b : Books D S F g s f) (k : AreKept b) (none_lost : IsTrue (is_whole_in b)) (clean : IsClean b.store)
      (whole : IsWhole (opened_in b)) (file : List ℕ) (files : ℕ → Option (List ℕ)) (left : LeavesFront b file files)
    where
      abbrev opened : Store D S F g s f
      opened = opened_in b

      abbrev begin : Point
      begin = start_of (empty_state (limits_of opened) 0)

      abbrev Has : ℕ → Type 0
      Has = HasSafe s.held s.may_leave (shelf_of opened)

      still : (n : ℕ) → Has n → (bytes : List ℕ) → s.held (shelf_of opened) n ≡ Some bytes → files n ≡ Some bytes
      still n has bytes there = search (rules, arith, some_is)

      -- what the store had as it was opened comes to what was recovered then
      moved : Replays (stands_in files) begin (k.begun none_lost (k.goes.clean clean)).entries b.start.value
      moved =
          let first = k.begun none_lost (k.goes.clean clean) in
          replays_moved Has (s.held (shelf_of opened)) files still begin first.entries b.start.value first.are_entries
          (subst (λ (l : List (List ℕ)). All (λ text. All Has (numbers_of text)) l) first.texts
          (whole (k.goes.clean clean))) first.replays

      -- and what was kept since goes on from there, if it is a run at no earlier moments
      runs_on : (rest : List Exchange) (service : State) → Run (start_in b) ((kept_in b ++ left.front) ++ rest) service
          → NeverBefore (since_in b) ((kept_in b ++ left.front) ++ rest)
          → (point : Point) × Recovers (limits_of opened) file files point
      runs_on rest service run before =
          let first = k.begun none_lost (k.goes.clean clean) in
          let behind = left.leaves.holds in
          let kept = kept_in b ++ left.front in
          let front = run_in_two (start_in b) kept rest service run in
          let moments =
          sooner b.start.value.last (since_in b) kept (omega arith) (before_front (since_in b) kept rest before) in
          let there =
          replays_there files b.start.value behind.entries kept front.0 behind.stand_for front.1 moments in (
            there.0,
            is_replay (stored file) files begin there.0 (first.entries ++ behind.entries)
                (All-append IsEntry first.entries behind.entries first.are_entries behind.are_entries)
                (behind.texts_are ∙ (λ i. first.texts i ++ map entry_text behind.entries)
                ∙ sym (map-append entry_text first.entries behind.entries))
                (empty_is_lawful (limits_of opened) 0)
                (replays_on files begin first.entries behind.entries b.start.value there.0 moved there.1),
          )

      module _ (point : Point) (recovers : Recovers (limits_of (opened_in b)) file files point) where
        -- it went over what the store had as it was opened
        goes_on : Replays (stands_in files) b.start.value left.leaves.holds.entries point
        goes_on =
            let first = k.begun none_lost (k.goes.clean clean) in
            let behind = left.leaves.holds in
            let all : recovers.entries ≡ first.entries ++ behind.entries =
            same_entries recovers.entries (first.entries ++ behind.entries) recovers.are_entries
            (All-append IsEntry first.entries behind.entries first.are_entries behind.are_entries)
            (sym recovers.texts ∙ behind.texts_are ∙ (λ i. first.texts i ++ map entry_text behind.entries)
            ∙ sym (map-append entry_text first.entries behind.entries)) in
            let two =
            replays_split files begin first.entries behind.entries point
            (subst (λ (l : List Entry). Replays (stands_in files) begin l point) all recovers.replays) in
            let same : two.0 ≡ b.start.value =
            replays_same files begin first.entries two.0 b.start.value two.1 moved in
            subst (λ (p : Point). Replays (stands_in files) p behind.entries point) same two.2

        has_told : (kept more : List Exchange) (heard : ℕ) (answer : Answer) → MayBeHeard (start_in b) kept heard answer
            → kept_in b ≡ kept ++ more → HasTold (start_in b) kept (more ++ left.front) heard b.upto answer point
        has_told kept more heard answer may all =
            let again =
            runs_again files b.start.value left.leaves.holds.entries (kept_in b ++ left.front) point goes_on
            left.leaves.holds.stand_for in
            let asks : map asked_of again.exchanges ≡ map asked_of (kept ++ (more ++ left.front)) =
            again.same ∙ ap (λ (l : List Exchange). map asked_of (l ++ left.front)) all
            ∙ ap (map asked_of) (append_assoc kept more left.front) in
            let parts = in_two again.exchanges kept (more ++ left.front) asks in
            let runs =
            run_in_two (start_in b) parts.front parts.back point.state
            (subst (λ (l : List Exchange). Run (start_in b) l point.state) parts.split again.run) in
            let has =
            told_is_kept (start_in b) kept heard answer may parts.front runs.0 runs.1 parts.same
            (remembered_front parts.front parts.back (subst AreRemembered parts.split again.remembered)) in
            record {
              later = parts.back;
              same = parts.others;
              has =
                  subst (λ (l : List Exchange). HasAnswer (start_in b) (l ++ parts.back) point.state heard answer) has.0
                  (has_still (start_in b) parts.front runs.0 heard answer parts.back point.state has.1 runs.2);
              moment = omega (arith, left.leaves.holds.moments, again.later, again.promised);
            }

  pub keeps_told : (b : Books D S F g s f) → AreKept b → LeavesJustThat b.store → KeepsWhatIsTold b
  keeps_told b k just none_lost kept more heard answer may all clean whole file files leaves point recovers =
      let left = left_front b k just clean whole file files leaves in (
        left.front,
        left.rest,
        left.split,
        has_told b k none_lost clean whole file files left point recovers kept more heard answer may all,
      )

  pub holds_on : (b : Books D S F g s f) → AreKept b → LeavesJustThat b.store → HoldsOverRestarts b
  holds_on b k just none_lost heard answer may none upto clean whole file files leaves point recovers more service
      before
      run =
      let left = left_front b k just clean whole file files leaves in
      let front : left.front ≡ [] = first_none left.front left.rest (sym left.split ∙ none) in
      let kept = kept_in b in
      let told =
      has_told b k none_lost clean whole file files left point recovers kept [] heard answer may (sym (append-nil kept))
      in
      let later : told.later ≡ [] = none_of told.later (told.same ∙ ap (map asked_of) front) in
      let again : Run (start_in b) kept point.state =
      subst (λ (l : List Exchange). Run (start_in b) l point.state)
      (sym told.has.all ∙ ap (λ (l : List Exchange). kept ++ l) later ∙ append-nil kept)
      (run_on (start_in b) told.has.before told.has.mid told.has.after point.state told.has.run told.has.on) in
      let xs = may.front ++ may.x ∷ may.rest in
      changes_are_enough.over_a_restart (start_in b) xs may.service point.state (moment_of point) more service
      (k.begun none_lost (k.goes.clean clean)).lawful may.served.moments may.served.run
      (subst (λ (l : List Exchange). Run (start_in b) l point.state)
      (sym may.changes_are_kept ∙ sym (same_changes xs)) again)
      (never_after 0 xs (moment_of point) may.served.moments (omega (arith, may.promised, upto, told.moment))) before
      run

  pub can_be_run_again : (b : Books D S F g s f) → AreKept b → LeavesJustThat b.store → CanBeRunAgain b
  can_be_run_again b k just none_lost service run before clean whole file files leaves =
      let left = left_front b k just clean whole file files leaves in
      let all : kept_in b ++ waiting_in b ≡ (kept_in b ++ left.front) ++ left.rest =
      ap (λ (l : List Exchange). kept_in b ++ l) left.split ∙ sym (append_assoc (kept_in b) left.front left.rest) in
      runs_on b k none_lost clean whole file files left left.rest service
      (subst (λ (l : List Exchange). Run (start_in b) l service) all run)
      (subst (λ (l : List Exchange). NeverBefore (since_in b) l) all before)
