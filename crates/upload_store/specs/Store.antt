-- What a `Store` shows.
use Rattle.std.specs.Prelude.{ℕ, Bool, List, Option, IsTrue}
use Rattle.sqlite_disk.specs.declared.Disk.{Ghosts}
use Rattle.journal.specs.Format.{Kept}
use Rattle.journal.specs.declared.journal.Journal.{Journal}
use Rattle.journal.specs.Journal as journals
use Rattle.bodies.specs.declared.shelf.Shelf as shelves
use Rattle.upload_service.specs.declared.limits.Limits.{Limits}
use Rattle.upload_store.specs.Found.{Found, found, texts_of}
use Rattle.upload_store.specs.Safe.{AreSafe}
use Rattle.upload_store.specs.declared.store.Store.{Store}

module _ {D S F : Type 0} {g : Ghosts D} {s : shelves.Ghosts S F} {f : Ghosts F} where
  abbrev pub journal_of : Store D S F g s f → Journal D g
  journal_of it = it.journal

  abbrev pub shelf_of : Store D S F g s f → S
  shelf_of it = it.run.rerun.files.shelf

  abbrev pub disk_of : Store D S F g s f → D
  disk_of it = journals.disk_of it.journal

  abbrev pub is_open : Store D S F g s f → Bool
  is_open it = journals.is_open it.journal

  -- the batches of its journal
  abbrev pub kept_of : Store D S F g s f → List Kept
  kept_of it = journals.kept it.journal

  -- the number of the next body
  abbrev pub next_of : Store D S F g s f → ℕ
  next_of it = it.next

  abbrev pub limits_of : Store D S F g s f → Limits
  limits_of it = it.limits

  -- no wrong answer was taken as true, neither of the disk nor of the shelf
  pub record IsClean (it : Store D S F g s f) : Type 0 where
    pub disk : IsTrue (g.is_clean (disk_of it))
    pub shelf : s.IsClean (shelf_of it)

  -- what it keeps: its batches, with the bodies of its shelf
  abbrev pub entries_of : Store D S F g s f → List (ℕ × List Found)
  entries_of it = found (kept_of it) (s.held (shelf_of it))

  -- no crash takes a body that its journal names
  abbrev pub IsWhole : Store D S F g s f → Type 0
  IsWhole it = IsClean it → AreSafe s.held s.may_leave (shelf_of it) (texts_of (kept_of it))

  -- a crash may leave this file of the journal, and these files of bodies
  pub record MayLeave (it : Store D S F g s f) (file : List ℕ) (files : ℕ → Option (List ℕ)) : Type 0 where
    pub journal : g.may_leave (disk_of it) file
    pub bodies : (n : ℕ) → s.may_leave (shelf_of it) n (files n)
