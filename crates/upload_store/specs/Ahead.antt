-- A store whose shelf reads ahead, and why a start gives up that does so.
use Rattle.std.specs.Prelude.{◌≡◌, ◌+◌, ◌≤◌, ◌^◌, ◌-◌, length, false, IsSome, IsTrue}
use Rattle.sqlite_disk.specs.declared.Disk.{Ghosts}
use Rattle.sqlite_disk.specs.Disk.{MoreFaults}
use Rattle.bodies.specs.declared.shelf.Shelf as shelves
use Rattle.bodies.specs.declared.ahead.AheadShelf.{AheadShelf}
use Rattle.bodies.specs.AheadShelf.{inner_of}
use Rattle.journal.specs.Errors.{Because}
use Rattle.journal.specs.Format.{sector}
use Rattle.journal.specs.Journal.{line_of}
use Rattle.journal.specs.Reads.{Refuses}
use Rattle.upload_store.specs.Faults.{ComesBy, Never, OnlyFails}
use Rattle.upload_store.specs.Store.{IsClean, disk_of, journal_of, kept_of, limits_of, next_of, shelf_of}
use Rattle.upload_store.specs.declared.fault.RefusedRecord.{RefusedRecord}
use Rattle.upload_store.specs.declared.fault.StoreFault.{StoreFault}
use Rattle.upload_store.specs.declared.store.Store.{Store}

module _ {D S F R : Type 0} {g : Ghosts D} {s : shelves.Ghosts S F} {t : shelves.Ghosts (AheadShelf R S F) F} {f : Ghosts F}
  where
    -- the second is the first, over a shelf that reads ahead the bodies of its own
    pub record IsAhead (store : Store D S F g s f) (ahead : Store D (AheadShelf R S F) F g t f) : Type 0 where
      pub journal : journal_of ahead ≡ journal_of store
      pub shelf : inner_of (shelf_of ahead) ≡ shelf_of store
      pub next : next_of ahead ≡ next_of store
      pub limits : limits_of ahead ≡ limits_of store

module _ {D S F : Type 0} {g : Ghosts D} {s : shelves.Ghosts S F} {f : Ghosts F} where
  -- A recovery gives up by its own causes, and may refuse a record by this one: from the store, or from one of the same
  -- records and the same bodies, whose journal was read once before.
  pub record GivesUpSince (refused : RefusedRecord → Type 0) (old new : Store D S F g s f) (fault : StoreFault)
      : Type 0 where
    pub was : Store D S F g s f
    pub same : IsClean was → kept_of was ≡ kept_of old
    pub shelf : shelf_of was ≡ shelf_of old
    pub faults : g.faults (disk_of old) ≤ g.faults (disk_of was)
    pub why : ComesBy
        (Because (g.is_usable (disk_of was) ≡ false)
        (Refuses g (line_of (journal_of was)).bytes (disk_of was) (disk_of new))
        (IsTrue (g.is_clean (disk_of new)) → 2 ^ 63 ≤ length (g.seen (disk_of was)) + sector + sector)
        (MoreFaults (g.faults (disk_of was)) (g.faults (disk_of new))) Never)
        (OnlyFails (MoreFaults (s.faults (shelf_of was)) (s.faults (shelf_of new)))) refused
        (s.IsClean (shelf_of new) → IsSome (s.held (shelf_of was) (2 ^ 64 - 1))) fault
