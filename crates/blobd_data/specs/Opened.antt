-- What a data directory leads to.
use Rattle.std.specs.Prelude.{◌≡◌, ◌≢◌, ℕ, List}
use Rattle.sqlite_disk.specs.declared.Disk.{Ghosts}
use Rattle.sqlite_disk.specs.Disk.{MoreFaults}
use Rattle.bodies.specs.declared.shelf.Shelf as shelves
use Rattle.journal.specs.Format.{Kept}
use Rattle.upload_service.specs.declared.limits.Limits.{Limits}
use Rattle.upload_service.specs.Machine.{State, empty_state}
use Rattle.upload_journal.specs.Replay.{Point}
use Rattle.upload_store.specs.Runs.{IsReplayOf, start_of}
use Rattle.upload_store.specs.Salvage.{IsSalvageOf}
use Rattle.upload_store.specs.Store.{IsClean, kept_of, shelf_of}
use Rattle.upload_store.specs.declared.losses.Losses.{Losses}
use Rattle.upload_keeping.specs.Begun.{Notes}
use Rattle.upload_keeping.specs.Books.{moment_of}
use Rattle.upload_keeping.specs.Kept.{store_of}
use Rattle.upload_keeping.specs.declared.keeping.StoreKeeping.{StoreKeeping}

module _ {D S H F : Type 0} {g : Ghosts D} {s : shelves.Ghosts S F} {f : Ghosts F} where
  -- the service and the moment at which a keeping begins are those that the records of its store come to
  abbrev pub HasRecovered : Limits → StoreKeeping D S H F g s f → State → ℕ → Type 0
  HasRecovered limits k service since =
      IsClean (store_of k) → (point : Point)
      × IsReplayOf (kept_of (store_of k)) (s.held (shelf_of (store_of k))) (start_of (empty_state limits 0)) point
      × (point.state ≡ service) × (moment_of point ≡ since)

  -- They are; or if some of these records are lost, they are what the others come to, and the losses are said.
  pub record HasBegun (limits : Limits) (k : StoreKeeping D S H F g s f) (service : State) (since : ℕ) (losses : Losses)
      : Type 0 where
    pub recovered : losses.count ≡ 0 → HasRecovered limits k service since
    pub salvaged : losses.count ≢ 0 → IsClean (store_of k) → (all : List Kept) × (faults : ℕ) × (point : Point)
        × Notes losses.count service.issued all (kept_of (store_of k))
        × IsSalvageOf all (s.held (shelf_of (store_of k))) (MoreFaults faults (s.faults (shelf_of (store_of k))))
        (start_of (empty_state limits 0)) point losses.count losses.listed.items
        × (point.state ≡ service) × (moment_of point ≡ since)
