-- How a keeping begins.
use Rattle.std.specs.Prelude.{◌≡◌, ◌≢◌, ◌⊎◌, ℕ, ◌+◌, ◌-◌, ◌≤◌, ◌^◌, List, [], ◌∷◌, ◌++◌, length, Option, false, IsSome, IsTrue}
use Rattle.sqlite_disk.specs.declared.Disk.{Ghosts}
use Rattle.bodies.specs.declared.shelf.Shelf as shelves
use Rattle.std.specs.List.{All}
use Rattle.sqlite_disk.specs.Disk.{MoreFaults}
use Rattle.journal.specs.Batch.{batch_records, batch_size}
use Rattle.journal.specs.Errors.{Because}
use Rattle.journal.specs.Format.{Kept, sector}
use Rattle.journal.specs.Journal.{end_of, line_of}
use Rattle.journal.specs.Reads.{Refuses}
use Rattle.journal.specs.declared.batch.Batch.{Batch}
use Rattle.upload_service.specs.Machine.{State, empty_state}
use Rattle.upload_journal.specs.declared.entries.Entry.TheVariants.{NumbersUpTo}
use Rattle.upload_journal.specs.declared.replay.ReplayFault.TheVariants as faults
use Rattle.upload_journal.specs.Entries.{entry_text}
use Rattle.upload_journal.specs.Replay.{Point}
use Rattle.upload_store.specs.Faults.{ComesBy, Never, NoBody, NoRecord, OnlyFails}
use Rattle.upload_store.specs.Found.{numbers_of, texts_of}
use Rattle.upload_store.specs.Runs.{IsReplayOf, start_of}
use Rattle.upload_store.specs.Salvage.{IsSalvageOf, one_more}
use Rattle.upload_store.specs.declared.fault.RefusedRecord.{RefusedRecord}
use Rattle.upload_store.specs.declared.fault.StoreFault.{StoreFault}
use Rattle.upload_store.specs.declared.losses.Losses.{Losses}
use Rattle.upload_store.specs.Store as stores
use Rattle.upload_store.specs.declared.store.Store.{Store}
use Rattle.upload_keeping.specs.Books.{moment_of}
use Rattle.upload_keeping.specs.Kept.{kept_of, opened_of, store_of, is_whole_of}
use Rattle.upload_keeping.specs.declared.keeping.StoreKeeping.{StoreKeeping}

-- Behind losses an entry is noted by which the numbers up to this one are used up, so that each later start comes to no
-- other ones.
abbrev pub Notes : ℕ → ℕ → List Kept → List Kept → Type 0
Notes lost issued old new =
    ((lost ≡ 0) × (new ≡ old))
    ⊎ ((lost ≢ 0) × ((time : ℕ) × (new ≡ old ++ (time, entry_text (NumbersUpTo issued) ∷ []) ∷ [])))

-- there was no memory for the record
abbrev pub LacksMemory : RefusedRecord → Type 0
LacksMemory it = it.fault ≡ faults.NoMemory

module _ {D S F : Type 0} {g : Ghosts D} {s : shelves.Ghosts S F} {f : Ghosts F} where
  -- Why a recovery of a store gives up, by the disk and the shelf as it left them, and by why it may be for a record.
  abbrev pub GivesUp : (RefusedRecord → Type 0) → Store D S F g s f → D → S → StoreFault → Type 0
  GivesUp refused store disk shelf = ComesBy
      (Because (g.is_usable (stores.disk_of store) ≡ false)
      (Refuses g (line_of (stores.journal_of store)).bytes (stores.disk_of store) disk)
      (IsTrue (g.is_clean disk) → 2 ^ 63 ≤ length (g.seen (stores.disk_of store)) + sector + sector)
      (MoreFaults (g.faults (stores.disk_of store)) (g.faults disk)) Never)
      (OnlyFails (MoreFaults (s.faults (stores.shelf_of store)) (s.faults shelf))) refused
      (s.IsClean shelf → IsSome (s.held (stores.shelf_of store) (2 ^ 64 - 1)))

  -- Why an entry isn't noted in a store, by the disk as it was left: there is no memory, the journal would be too long,
  -- or a call failed.
  abbrev pub IsNotNoted : Store D S F g s f → ℕ → D → StoreFault → Type 0
  IsNotNoted store issued disk = ComesBy
      (Because (stores.is_open store ≡ false) Never
      ((batch : Batch) × (batch_records batch ≡ entry_text (NumbersUpTo issued) ∷ [])
      × (2 ^ 63 ≤ end_of (stores.journal_of store) + sector + batch_size batch))
      (MoreFaults (g.faults (stores.disk_of store)) (g.faults disk)) Never)
      NoBody NoRecord Never

  -- why none begins over a store, also without what is lost: a recovery gives up, of the records only by a want of
  -- memory, or the entry after the losses isn't noted
  abbrev pub BeginsNot : Store D S F g s f → StoreFault → Type 0
  BeginsNot store fault =
      ((disk : D) × (shelf : S) × GivesUp LacksMemory store disk shelf fault)
      ⊎ ((was : Store D S F g s f) × IsTrue (stores.is_open was)
      × (stores.IsClean was → stores.kept_of was ≡ stores.kept_of store)
      × ((issued : ℕ) × (disk : D) × IsNotNoted was issued disk fault))

  -- nothing on its shelf is under way: each crash leaves the files as they are
  abbrev pub IsAtRest : Store D S F g s f → Type 0
  IsAtRest store =
      (n : ℕ) (left : Option (List ℕ)) → s.may_leave (stores.shelf_of store) n left
      → left ≡ s.held (stores.shelf_of store) n

module _ {D S H F : Type 0} {g : Ghosts D} {s : shelves.Ghosts S F} {f : Ghosts F} where
  -- Over a store that was recovered: the service and the moment are those that its entries come to, and nothing is kept
  -- yet.
  pub record Begins (store : Store D S F g s f) (k : StoreKeeping D S H F g s f) (service : State) (since : ℕ)
      : Type 0 where
    pub none : kept_of k ≡ []
    pub opened : opened_of k ≡ store_of k
    pub is_whole : IsTrue (is_whole_of k)
    pub same : stores.IsClean (store_of k) → stores.kept_of (store_of k) ≡ stores.kept_of store
    pub recovered : stores.IsClean (store_of k) → (point : Point)
        × IsReplayOf (stores.kept_of store) (s.held (stores.shelf_of (store_of k)))
        (start_of (empty_state (stores.limits_of store) 0)) point
        × (point.state ≡ service) × (moment_of point ≡ since)
    -- no crash takes a body that its journal names
    pub whole : IsAtRest store → stores.IsWhole (store_of k)

  -- Over a store of which records may be lost: the service and the moment are those that its others come to, and what
  -- is lost is said. If nothing is, it is as over one that was recovered.
  pub record BeginsWithout (store : Store D S F g s f) (k : StoreKeeping D S H F g s f) (service : State) (since : ℕ)
      (losses : Losses) : Type 0 where
    pub none : kept_of k ≡ []
    pub opened : opened_of k ≡ store_of k
    pub salvaged : stores.IsClean (store_of k) → (point : Point)
        × IsSalvageOf (stores.kept_of store) (s.held (stores.shelf_of (store_of k)))
        (MoreFaults (s.faults (stores.shelf_of store)) (s.faults (stores.shelf_of (store_of k))))
        (start_of (empty_state (stores.limits_of store) 0)) point losses.count losses.listed.items
        × (point.state ≡ service) × (moment_of point ≡ since)
    pub noted : stores.IsClean (store_of k)
        → Notes losses.count service.issued (stores.kept_of store) (stores.kept_of (store_of k))
    -- no later body gets the number of a file that a record names
    pub unnamed : stores.IsClean (store_of k)
        → All (λ text. All (λ n. one_more n ≤ stores.next_of (store_of k)) (numbers_of text))
        (texts_of (stores.kept_of store))
    pub whole : losses.count ≡ 0 → Begins store k service since
