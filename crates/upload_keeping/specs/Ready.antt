-- What stands ready for a request that was noted.
use Rattle.sqlite_disk.specs.declared.Disk.{Ghosts}
use Rattle.bodies.specs.declared.shelf.Shelf as shelves
use Rattle.upload_keeping.specs.Books.{IsReadyFor}
use Rattle.upload_keeping.specs.declared.books.Books.{Books}
use Rattle.upload_keeping.specs.declared.noted.Noted.{Noted}

module _ {D S F : Type 0} {g : Ghosts D} {s : shelves.Ghosts S F} {f : Ghosts F} where
  -- its entry up to its answer, and a file that nothing else names
  abbrev pub IsReady : Books D S F g s f → Noted D S F g s f → Type 0
  IsReady b noted = IsReadyFor b noted.note noted.drafted
