-- A keeping begins over a store without the records that are lost.
use Rattle.std.proofs.Common.{◌≡◌, ◌≤◌, ℕ, [], sym, ap, subst, IsTrue, arith, rules}
use Rattle.std.specs.List.{All}
use Rattle.sqlite_disk.specs.declared.Disk.{Ghosts}
use Rattle.sqlite_disk.specs.Disk.{MoreFaults}
use Rattle.bodies.specs.declared.shelf.Shelf as shelves
use Rattle.journal.specs.Errors.{Because, WhyNot}
use Rattle.journal.specs.declared.error.Error.{Error}
use Rattle.upload_service.specs.Machine.{State, empty_state}
use Rattle.upload_journal.specs.Replay.{Point}
use Rattle.upload_store.specs.Faults.{ComesBy, Never, NoBody, NoRecord}
use Rattle.upload_store.specs.Found.{numbers_of, texts_of}
use Rattle.upload_store.specs.Reading.{ReadsOnly}
use Rattle.upload_store.specs.Runs.{IsReplayOf, start_of}
use Rattle.upload_store.specs.Salvage.{IsSalvageOf, one_more}
use Rattle.upload_store.specs.Store.{IsClean, IsWhole, kept_of as records_of, shelf_of, limits_of, next_of}
use Rattle.upload_store.specs.declared.fault.StoreFault.{StoreFault}
use Rattle.upload_store.specs.declared.losses.Losses.{Losses}
use Rattle.upload_store.specs.declared.store.Store.{Store}
use Rattle.upload_store.proofs.Causes.{comes_weaker}
use Rattle.upload_keeping.specs.Begun.{BeginsWithout, Notes}
use Rattle.upload_keeping.specs.Books.{moment_of}
use Rattle.upload_keeping.specs.Kept.{kept_of, opened_of, store_of, is_whole_of}
use Rattle.upload_keeping.specs.declared.keeping.StoreKeeping.{StoreKeeping}
use Rattle.upload_keeping.proofs.Going.{whole_at_rest}

module _ {D S F : Type 0} {g : Ghosts D} {s : shelves.Ghosts S F} {f : Ghosts F} where
  -- what a recovery of a store came to
  pub record Saved (old was : Store D S F g s f) (point : Point) (losses : Losses) : Type 0 where
    pub ran : IsClean was
        → IsSalvageOf (records_of old) (s.held (shelf_of was))
        (MoreFaults (s.faults (shelf_of old)) (s.faults (shelf_of was))) (start_of (empty_state (limits_of old) 0))
        point
        losses.count losses.listed.items
    pub same : IsClean was → records_of was ≡ records_of old
    pub unnamed : IsClean was
        → All (λ text. All (λ n. one_more n ≤ next_of was) (numbers_of text)) (texts_of (records_of old))
    pub reads : ReadsOnly s.held s.may_leave s.IsClean (shelf_of old) (shelf_of was)

module _ {D S H F : Type 0} {g : Ghosts D} {s : shelves.Ghosts S F} {f : Ghosts F} where
  -- and what began over it
  pub record Over (was : Store D S F g s f) (k : StoreKeeping D S H F g s f) (service : State) (since : ℕ)
      (point : Point)
      (losses : Losses) : Type 0 where
    pub none : kept_of k ≡ []
    pub opened : opened_of k ≡ store_of k
    pub clean : IsClean (store_of k) → IsClean was
    pub shelf : shelf_of (store_of k) ≡ shelf_of was
    pub next : next_of (store_of k) ≡ next_of was
    pub noted : IsClean (store_of k)
        → Notes losses.count point.state.issued (records_of was) (records_of (store_of k))
    pub all : losses.count ≡ 0 → (store_of k ≡ was) × IsTrue (is_whole_of k)
    pub service_is : service ≡ point.state
    pub since_is : since ≡ moment_of point

  pub begins_without : (old was : Store D S F g s f) (k : StoreKeeping D S H F g s f) (service : State) (since : ℕ)
      (point : Point) (losses : Losses) → Saved old was point losses → Over was k service since point losses
      → BeginsWithout old k service since losses
  begins_without old was k service since point losses saved over =
      let begin = start_of (empty_state (limits_of old) 0) in
      let all : (losses.count ≡ 0) → IsClean was → IsReplayOf (records_of old) (s.held (shelf_of was)) begin point =
      λ none clean. (saved.ran clean).none_lost none in
      record {
        none = over.none;
        opened = over.opened;
        salvaged = λ clean. (
          point,
          subst
              (λ (shelf : S). IsSalvageOf (records_of old) (s.held shelf)
              (MoreFaults (s.faults (shelf_of old)) (s.faults shelf)) begin point losses.count losses.listed.items)
              (sym over.shelf) (saved.ran (over.clean clean)),
          sym over.service_is,
          sym over.since_is,
        );
        noted = λ clean.
            subst
            (λ issued. Notes losses.count issued (records_of old) (records_of (store_of k)))
            (sym (ap (λ (t : State). t.issued) over.service_is))
            (subst (λ records. Notes losses.count point.state.issued records (records_of (store_of k)))
            (saved.same (over.clean clean)) (over.noted clean));
        unnamed = λ clean.
            subst (λ next. All (λ text. All (λ n. one_more n ≤ next) (numbers_of text)) (texts_of (records_of old)))
            (sym over.next) (saved.unnamed (over.clean clean));
        whole = λ none.
            let is : was ≡ store_of k = sym (over.all none).0 in
            record {
              none = over.none;
              opened = over.opened;
              is_whole = (over.all none).1;
              same =
                  subst (λ (x : Store D S F g s f). IsClean x → records_of x ≡ records_of old) is saved.same;
              recovered =
                  subst
                  (λ (x : Store D S F g s f). IsClean x → (p : Point)
                  × IsReplayOf (records_of old) (s.held (shelf_of x)) begin p × (p.state ≡ service)
                  × (moment_of p ≡ since)) is
                  (λ clean. (point, all none clean, sym over.service_is, sym over.since_is));
              whole = λ rest.
                  subst (λ (x : Store D S F g s f). IsWhole x) is
                  (whole_at_rest old was begin point saved.reads saved.same (all none) rest);
            };
      }

-- ---- why an entry isn't noted

why_not : (closed long long2 disk same : Type 0) → (long → long2) → (error : Error) → WhyNot closed long disk same error
    → Because closed Never long2 disk Never error
why_not closed long long2 disk same longer error why = search (rules, arith)

pub not_noted : (closed long long2 disk same : Type 0) → (long → long2) → (fault : StoreFault)
    → ComesBy (WhyNot closed long disk same) NoBody NoRecord Never fault
    → ComesBy (Because closed Never long2 disk Never) NoBody NoRecord Never fault
not_noted closed long long2 disk same longer fault = search (rules, arith, comes_weaker, why_not)
