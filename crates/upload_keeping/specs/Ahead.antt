-- Why none begins over a store whose bodies were read ahead.
use Rattle.std.specs.Prelude.{◌≡◌, ℕ, IsTrue}
use Rattle.sqlite_disk.specs.declared.Disk.{Ghosts}
use Rattle.bodies.specs.declared.shelf.Shelf as shelves
use Rattle.upload_store.specs.Store.{IsClean, is_open, kept_of}
use Rattle.upload_store.specs.declared.fault.RefusedRecord.{RefusedRecord}
use Rattle.upload_store.specs.declared.fault.StoreFault.{StoreFault}
use Rattle.upload_store.specs.declared.store.Store.{Store}
use Rattle.upload_keeping.specs.Begun.{GivesUp, IsNotNoted}

module _ {D S F : Type 0} {g : Ghosts D} {s : shelves.Ghosts S F} {f : Ghosts F} where
  -- a store of the same records, of which a recovery gives up
  pub record GivesUpOver (refused : RefusedRecord → Type 0) (store : Store D S F g s f) (fault : StoreFault) : Type 0 where
    pub was : Store D S F g s f
    pub same : IsClean was → kept_of was ≡ kept_of store
    pub disk : D
    pub left : S
    pub why : GivesUp refused was disk left fault

  -- the entry behind losses isn't noted in a store of the same records
  abbrev pub NotesNot : Store D S F g s f → StoreFault → Type 0
  NotesNot store fault =
      (was : Store D S F g s f) × IsTrue (is_open was) × (IsClean was → kept_of was ≡ kept_of store)
      × ((issued : ℕ) × (disk : D) × IsNotNoted was issued disk fault)
