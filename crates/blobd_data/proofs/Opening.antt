-- What a data directory leads to.
use Rattle.std.proofs.Common.{◌≡◌, ℕ, sym, subst}
use Rattle.sqlite_disk.specs.declared.Disk.{Ghosts}
use Rattle.bodies.specs.declared.shelf.Shelf as shelves
use Rattle.sqlite_disk.specs.Disk.{MoreFaults}
use Rattle.upload_service.specs.declared.limits.Limits.{Limits}
use Rattle.upload_service.specs.Machine.{State, empty_state}
use Rattle.upload_store.specs.Runs.{IsReplayOf, start_of}
use Rattle.upload_store.specs.Salvage.{IsSalvageOf}
use Rattle.upload_store.specs.Store.{kept_of, shelf_of, limits_of}
use Rattle.upload_store.specs.declared.losses.Losses.{Losses}
use Rattle.upload_store.specs.declared.store.Store.{Store}
use Rattle.upload_keeping.specs.Begun.{Begins, BeginsWithout}
use Rattle.upload_keeping.specs.Kept.{store_of}
use Rattle.upload_keeping.specs.declared.keeping.StoreKeeping.{StoreKeeping}
use Rattle.blobd_data.specs.Opened.{HasBegun, HasRecovered}

module _ {D S H F : Type 0} {g : Ghosts D} {s : shelves.Ghosts S F} {f : Ghosts F} (limits : Limits)
    (store : Store D S F g s f) (k : StoreKeeping D S H F g s f) (service : State) (since : ℕ) (losses : Losses)
    (same : limits_of store ≡ limits) where
  recovered : Begins store k service since → HasRecovered limits k service since
  recovered begins clean =
      let is = begins.recovered clean in
      let held = s.held (shelf_of (store_of k)) in (
        is.0,
        subst (λ l. IsReplayOf (kept_of (store_of k)) held (start_of (empty_state l 0)) is.0) same
            (subst (λ all. IsReplayOf all held (start_of (empty_state (limits_of store) 0)) is.0)
            (sym (begins.same clean)) is.1),
        is.2,
        is.3,
      )

  -- of one that was recovered
  pub begun_whole : Begins store k service since → losses.count ≡ 0 → HasBegun limits k service since losses
  begun_whole begins none =
      record { recovered = λ _. recovered begins; salvaged = λ some. absurd (some none) }

  -- of one that may be damaged
  pub begun_without : BeginsWithout store k service since losses → HasBegun limits k service since losses
  begun_without begins = record {
    recovered = λ none. recovered (begins.whole none);
    salvaged = λ _ clean.
        let is = begins.salvaged clean in (
          kept_of store,
          s.faults (shelf_of store),
          is.0,
          begins.noted clean,
          subst
              (λ l. IsSalvageOf (kept_of store) (s.held (shelf_of (store_of k)))
              (MoreFaults (s.faults (shelf_of store)) (s.faults (shelf_of (store_of k)))) (start_of (empty_state l 0)) is.0
              losses.count losses.listed.items) same is.1,
          is.2,
          is.3,
        );
  }
