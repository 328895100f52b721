-- What a keeping over a store shows.
use Rattle.std.specs.Prelude.{ℕ, Bool, List, is_some, Option, option_map}
use Rattle.sqlite_disk.specs.declared.Disk.{Ghosts}
use Rattle.bodies.specs.declared.shelf.Shelf as shelves
use Rattle.upload_service.specs.Machine.{State}
use Rattle.upload_service.specs.Run.{Exchange}
use Rattle.upload_store.specs.declared.store.Store.{Store}
use Rattle.upload_keeper.specs.Safety.{Asked}
use Rattle.upload_keeping.specs.Books as books
use Rattle.upload_keeping.specs.declared.noted.Noted.{Noted}
use Rattle.upload_keeping.specs.declared.keeping.StoreKeeping.{StoreKeeping}

module _ {D S H F : Type 0} {g : Ghosts D} {s : shelves.Ghosts S F} {f : Ghosts F} where
  abbrev pub start_of : StoreKeeping D S H F g s f → State
  start_of k = books.start_in k.books

  abbrev pub kept_of : StoreKeeping D S H F g s f → List Exchange
  kept_of k = books.kept_in k.books

  abbrev pub waiting_of : StoreKeeping D S H F g s f → List Exchange
  waiting_of k = books.waiting_in k.books

  abbrev pub last_of : StoreKeeping D S H F g s f → ℕ
  last_of k = k.books.last

  abbrev pub upto_of : StoreKeeping D S H F g s f → ℕ
  upto_of k = k.books.upto

  -- something was not kept
  abbrev pub has_failed : StoreKeeping D S H F g s f → Bool
  has_failed k = is_some k.books.fault

  -- the request that was noted last
  abbrev pub noted_of : StoreKeeping D S H F g s f → Option Asked
  noted_of k = option_map (λ (n : Noted D S F g s f). n.note) k.noted

  abbrev pub store_of : StoreKeeping D S H F g s f → Store D S F g s f
  store_of k = k.books.store

  -- no record that the store had as it was opened is lost
  abbrev pub is_whole_of : StoreKeeping D S H F g s f → Bool
  is_whole_of k = books.is_whole_in k.books

  -- the store as it was opened
  abbrev pub opened_of : StoreKeeping D S H F g s f → Store D S F g s f
  opened_of k = books.opened_in k.books
