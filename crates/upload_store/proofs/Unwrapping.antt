-- A start over a shelf that reads ahead is a start over the shelf that it reads.
use Rattle.std.proofs.Common.{◌≡◌, ◌∙◌, ◌+◌, ◌-◌, ◌<◌, ◌≤◌, ◌^◌, ℕ, List, length, Option, Result, Ok, Err, IfOk}
use Rattle.std.proofs.Common.{IfErr, IsSome, IsTrue}
use Rattle.std.proofs.Common.{sym, ap, subst, arith, false, rules}
use Rattle.std.specs.List.{All}
use Rattle.sqlite_disk.specs.declared.Disk.{Ghosts}
use Rattle.sqlite_disk.specs.Disk.{MoreFaults}
use Rattle.bodies.specs.declared.shelf.Shelf as shelves
use Rattle.bodies.specs.declared.ahead.AheadShelf.{AheadShelf}
use Rattle.bodies.specs.AheadShelf.{inner_of}
use Rattle.journal.specs.Errors.{Because}
use Rattle.journal.specs.Format.{sector, stored}
use Rattle.journal.specs.Journal as journals
use Rattle.journal.specs.Reads.{Refuses}
use Rattle.journal.specs.declared.journal.Journal.{Journal}
use Rattle.upload_service.specs.Machine.{empty_state}
use Rattle.upload_service.specs.declared.limits.Limits.{Limits}
use Rattle.upload_journal.specs.Replay.{Point}
use Rattle.upload_store.specs.Ahead.{GivesUpSince, IsAhead}
use Rattle.upload_store.specs.Faults.{ComesBy, Never, OnlyFails}
use Rattle.upload_store.specs.Found.{numbers_of, texts_of}
use Rattle.upload_store.specs.Reading.{ReadsOnly}
use Rattle.upload_store.specs.Runs.{IsReplayOf, start_of}
use Rattle.upload_store.specs.Salvage.{IsSalvageOf, one_more}
use Rattle.upload_store.specs.Store.{IsClean, disk_of, is_open, journal_of, kept_of, limits_of, next_of, shelf_of}
use Rattle.upload_store.specs.declared.fault.Loss.{Loss}
use Rattle.upload_store.specs.declared.fault.RefusedRecord.{RefusedRecord}
use Rattle.upload_store.specs.declared.fault.StoreFault.{StoreFault}
use Rattle.upload_store.specs.declared.store.Store.{Store}
use Rattle.upload_store.proofs.Causes.{comes_weaker, fault_weaker}

pub if_ok_so : {T E : Type 0} (P Q : T → Type 0) → ((x : T) → P x → Q x) → (result : Result T E) → IfOk result P
    → IfOk result Q
if_ok_so P Q so (Ok x) told = so x told
if_ok_so P Q so (Err e) told = tt

pub if_err_so : {T E : Type 0} (P Q : E → Type 0) → ((e : E) → P e → Q e) → (result : Result T E) → IfErr result P
    → IfErr result Q
if_err_so P Q so (Ok x) told = tt
if_err_so P Q so (Err e) told = so e told

module _ {D S F R : Type 0} {g : Ghosts D} {s : shelves.Ghosts S F} {t : shelves.Ghosts (AheadShelf R S F) F}
    {f : Ghosts F}
    (held : (x : AheadShelf R S F) → t.held x ≡ s.held (inner_of x))
    (left : (x : AheadShelf R S F) → t.may_leave x ≡ s.may_leave (inner_of x))
    (to : (x : AheadShelf R S F) → s.IsClean (inner_of x) → t.IsClean x)
    (from : (x : AheadShelf R S F) → t.IsClean x → s.IsClean (inner_of x))
    (faults : (x : AheadShelf R S F) → t.faults x ≡ s.faults (inner_of x)) where
  module _ (store : Store D S F g s f) (over : Store D (AheadShelf R S F) F g t f) (is : IsAhead store over) where
    held_is : t.held (shelf_of over) ≡ s.held (shelf_of store)
    held_is = held (shelf_of over) ∙ ap (λ (x : S). s.held x) is.shelf

    left_is : t.may_leave (shelf_of over) ≡ s.may_leave (shelf_of store)
    left_is = left (shelf_of over) ∙ ap (λ (x : S). s.may_leave x) is.shelf

    faults_is : t.faults (shelf_of over) ≡ s.faults (shelf_of store)
    faults_is = faults (shelf_of over) ∙ ap (λ (x : S). s.faults x) is.shelf

    pub kept_is : kept_of over ≡ kept_of store
    kept_is = ap (λ (j : Journal D g). journals.kept j) is.journal

    pub disk_is : disk_of over ≡ disk_of store
    disk_is = ap (λ (j : Journal D g). journals.disk_of j) is.journal

    pub shelf_over : s.IsClean (shelf_of store) → t.IsClean (shelf_of over)
    shelf_over clean = to (shelf_of over) (subst (λ (x : S). s.IsClean x) (sym is.shelf) clean)

    shelf_under : t.IsClean (shelf_of over) → s.IsClean (shelf_of store)
    shelf_under clean = subst (λ (x : S). s.IsClean x) is.shelf (from (shelf_of over) clean)

    pub clean_over : IsClean store → IsClean over
    clean_over clean = search (rules, arith, disk_is, shelf_over)

    pub clean_under : IsClean over → IsClean store
    clean_under clean = search (rules, arith, disk_is, shelf_under)

  -- From a store another one was made, of the same records and the same bodies; and from that one over the shelf the
  -- new one.
  module _ (old was new : Store D S F g s f) (before after : Store D (AheadShelf R S F) F g t f)
      (first : IsAhead was before) (last : IsAhead new after)
      (same : IsClean was → kept_of was ≡ kept_of old) (shelf_same : shelf_of was ≡ shelf_of old)
      (limits_same : limits_of was ≡ limits_of old) (back : IsClean after → IsClean before) where
    up : IsClean new → IsClean after
    up clean = clean_over new after last clean

    was_clean : IsClean new → IsClean was
    was_clean clean = clean_under was before first (back (up clean))

    kept_before : IsClean new → kept_of before ≡ kept_of old
    kept_before clean = kept_is was before first ∙ same (was_clean clean)

    limits_before : limits_of before ≡ limits_of old
    limits_before = first.limits ∙ limits_same

    held_before : t.held (shelf_of before) ≡ s.held (shelf_of old)
    held_before = held_is was before first ∙ ap (λ (x : S). s.held x) shelf_same

    left_before : t.may_leave (shelf_of before) ≡ s.may_leave (shelf_of old)
    left_before = left_is was before first ∙ ap (λ (x : S). s.may_leave x) shelf_same

    faults_before : t.faults (shelf_of before) ≡ s.faults (shelf_of old)
    faults_before = faults_is was before first ∙ ap (λ (x : S). s.faults x) shelf_same

    pub ran_under : (point : Point)
        → (IsClean after → IsReplayOf (kept_of before) (t.held (shelf_of after))
        (start_of (empty_state (limits_of before) 0))
        point)
        → IsClean new
        → IsReplayOf (kept_of old) (s.held (shelf_of new)) (start_of (empty_state (limits_of old) 0)) point
    ran_under point ran clean = search (rules, arith, held_is, limits_before, kept_before, up)

    pub saved_under : (point : Point) (lost : ℕ) (listed : List Loss)
        → (IsClean after → IsSalvageOf (kept_of before) (t.held (shelf_of after))
        (MoreFaults (t.faults (shelf_of before)) (t.faults (shelf_of after)))
        (start_of (empty_state (limits_of before) 0))
        point lost listed)
        → IsClean new
        → IsSalvageOf (kept_of old) (s.held (shelf_of new))
        (MoreFaults (s.faults (shelf_of old)) (s.faults (shelf_of new))) (start_of (empty_state (limits_of old) 0))
        point
        lost listed
    saved_under point lost listed ran clean =
        subst
        (λ (n : ℕ). IsSalvageOf (kept_of old) (s.held (shelf_of new)) (MoreFaults (s.faults (shelf_of old)) n)
        (start_of (empty_state (limits_of old) 0)) point lost listed)
        (faults_is new after last)
        (subst
        (λ (n : ℕ). IsSalvageOf (kept_of old) (s.held (shelf_of new)) (MoreFaults n (t.faults (shelf_of after)))
        (start_of (empty_state (limits_of old) 0)) point lost listed)
        faults_before
        (subst
        (λ files. IsSalvageOf (kept_of old) files (MoreFaults (t.faults (shelf_of before)) (t.faults (shelf_of after)))
        (start_of (empty_state (limits_of old) 0)) point lost listed)
        (held_is new after last)
        (subst
        (λ (l : Limits). IsSalvageOf (kept_of old) (t.held (shelf_of after))
        (MoreFaults (t.faults (shelf_of before)) (t.faults (shelf_of after))) (start_of (empty_state l 0)) point lost
        listed)
        limits_before
        (subst
        (λ all. IsSalvageOf all (t.held (shelf_of after))
        (MoreFaults (t.faults (shelf_of before)) (t.faults (shelf_of after)))
        (start_of (empty_state (limits_of before) 0))
        point lost listed)
        (kept_before clean) (ran (up clean))))))

    pub same_under : (IsClean after → kept_of after ≡ kept_of before) → IsClean new → kept_of new ≡ kept_of old
    same_under told clean = sym (kept_is new after last) ∙ told (up clean) ∙ kept_before clean

    pub next_under : (IsClean after → (n : ℕ) → IsSome (t.held (shelf_of after) n) → n < next_of after)
        → IsClean new → (n : ℕ) → IsSome (s.held (shelf_of new) n) → n < next_of new
    next_under told clean n there = search (rules, arith, up, held_is)

    pub unnamed_under : (IsClean after
        → All (λ text. All (λ n. one_more n ≤ next_of after) (numbers_of text)) (texts_of (kept_of before)))
        → IsClean new
        → All (λ text. All (λ n. one_more n ≤ next_of new) (numbers_of text)) (texts_of (kept_of old))
    unnamed_under told clean =
        subst (λ next. All (λ text. All (λ n. one_more n ≤ next) (numbers_of text)) (texts_of (kept_of old))) last.next
        (subst (λ all. All (λ text. All (λ n. one_more n ≤ next_of after) (numbers_of text)) (texts_of all))
        (kept_before clean) (told (up clean)))

    pub reads_under : ReadsOnly t.held t.may_leave t.IsClean (shelf_of before) (shelf_of after)
        → ReadsOnly s.held s.may_leave s.IsClean (shelf_of old) (shelf_of new)
    reads_under reads = record {
      all = record {
        each = λ n.
            let here = reads.all.each n in
            record {
              same =
                  ap (λ (files : ℕ → Option (List ℕ)). files n) (sym (held_is new after last)) ∙ here.same
                  ∙ ap (λ (files : ℕ → Option (List ℕ)). files n) held_before;
              left = λ file may.
                  subst (λ (l : ℕ → Option (List ℕ) → Type 0). l n file) left_before
                  (here.left file
                  (subst (λ (l : ℕ → Option (List ℕ) → Type 0). l n file) (sym (left_is new after last)) may));
            };
      };
      clean = λ clean.
          subst (λ (x : S). s.IsClean x) shelf_same
          (shelf_under was before first (reads.clean (shelf_over new after last clean)));
    }

    pub cause_under : (refused : RefusedRecord → Type 0) → g.faults (disk_of old) ≤ g.faults (disk_of was)
        → (fault : StoreFault)
        → ComesBy
        (Because (g.is_usable (disk_of before) ≡ false)
        (Refuses g (journals.line_of (journal_of before)).bytes (disk_of before) (disk_of after))
        (IsTrue (g.is_clean (disk_of after)) → 2 ^ 63 ≤ length (g.seen (disk_of before)) + sector + sector)
        (MoreFaults (g.faults (disk_of before)) (g.faults (disk_of after))) Never)
        (OnlyFails (MoreFaults (t.faults (shelf_of before)) (t.faults (shelf_of after)))) refused
        (t.IsClean (shelf_of after) → IsSome (t.held (shelf_of before) (2 ^ 64 - 1))) fault
        → GivesUpSince refused old new fault
    cause_under refused more fault why = record {
      was = was;
      same = same;
      shelf = shelf_same;
      faults = more;
      why =
          comes_weaker _ _ _ _ _ _ _ _ (λ error why. why)
          (fault_weaker _ _ _ _ _ _ _ _ _ _ (λ never. never) (λ never. never) (λ never. never) (λ never. never)
          (λ some.
          let a = faults_is was before first in
          let b = faults_is new after last in
          omega (arith, some, a, b)))
          (λ it why. why)
          (λ full clean.
          subst (λ (files : ℕ → Option (List ℕ)). IsSome (files (2 ^ 64 - 1))) (held_is was before first)
          (full (shelf_over new after last clean)))
          fault
          (subst
          (λ (j : Journal D g). ComesBy
          (Because (g.is_usable (disk_of was) ≡ false)
          (Refuses g (journals.line_of (journal_of was)).bytes (disk_of was) (journals.disk_of j))
          (IsTrue (g.is_clean (journals.disk_of j)) → 2 ^ 63 ≤ length (g.seen (disk_of was)) + sector + sector)
          (MoreFaults (g.faults (disk_of was)) (g.faults (journals.disk_of j))) Never)
          (OnlyFails (MoreFaults (t.faults (shelf_of before)) (t.faults (shelf_of after)))) refused
          (t.IsClean (shelf_of after) → IsSome (t.held (shelf_of before) (2 ^ 64 - 1))) fault)
          last.journal
          (subst
          (λ (j : Journal D g). ComesBy
          (Because (g.is_usable (journals.disk_of j) ≡ false)
          (Refuses g (journals.line_of j).bytes (journals.disk_of j) (disk_of after))
          (IsTrue (g.is_clean (disk_of after)) → 2 ^ 63 ≤ length (g.seen (journals.disk_of j)) + sector + sector)
          (MoreFaults (g.faults (journals.disk_of j)) (g.faults (disk_of after))) Never)
          (OnlyFails (MoreFaults (t.faults (shelf_of before)) (t.faults (shelf_of after)))) refused
          (t.IsClean (shelf_of after) → IsSome (t.held (shelf_of before) (2 ^ 64 - 1))) fault)
          first.journal why));
    }

    pub any_under : (IsClean after → (file : List ℕ) → g.may_leave (disk_of after) file
        → (mid : List ℕ) × g.may_leave (disk_of before) mid × (stored file ≡ stored mid))
        → (IsClean was → (file : List ℕ) → g.may_leave (disk_of was) file
        → (mid : List ℕ) × g.may_leave (disk_of old) mid × (stored file ≡ stored mid))
        → IsClean new → (file : List ℕ) → g.may_leave (disk_of new) file
        → (mid : List ℕ) × g.may_leave (disk_of old) mid × (stored file ≡ stored mid)
    any_under late early clean file may = search (rules, arith, up, disk_is, was_clean)

    pub open_under : IsTrue (is_open after) → IsTrue (is_open new)
    open_under opened = subst (λ (j : Journal D g). IsTrue (journals.is_open j)) last.journal opened

    pub longer_under : length (g.seen (disk_of before)) ≤ length (g.seen (disk_of after))
        → length (g.seen (disk_of old)) ≤ length (g.seen (disk_of was))
        → length (g.seen (disk_of old)) ≤ length (g.seen (disk_of new))
    longer_under late early = search (rules, arith, disk_is)

    pub faults_under : g.faults (disk_of before) ≤ g.faults (disk_of after)
        → g.faults (disk_of old) ≤ g.faults (disk_of was)
        → g.faults (disk_of old) ≤ g.faults (disk_of new)
    faults_under late early = search (rules, arith, disk_is)
