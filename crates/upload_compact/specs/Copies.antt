-- What a store keeps while bytes are put on its shelf, and which of its files no crash takes.
use Rattle.std.specs.Prelude.{◌≡◌, ℕ, List, Option, Result, IfOk}
use Rattle.sqlite_disk.specs.declared.Disk.{Ghosts}
use Rattle.bodies.specs.declared.shelf.Shelf as shelves
use Rattle.upload_journal.specs.declared.body.BodyFile.{BodyFile}
use Rattle.upload_store.specs.declared.fault.StoreFault.{StoreFault}
use Rattle.upload_store.specs.declared.store.Store.{Store}
use Rattle.upload_store.specs.Safe.{IsSafe, HasSafe}
use Rattle.upload_store.specs.Store.{IsClean, journal_of, shelf_of}
use Rattle.upload_compact.specs.Numbers.{Has}
use Rattle.upload_compact.specs.declared.numbers.Numbers.{Numbers}

module _ {S : Type 0} (held : S → ℕ → Option (List ℕ)) (may_leave : S → ℕ → Option (List ℕ) → Type 0) where
  -- no crash takes the files of these numbers
  abbrev pub AreSafeNumbers : S → Numbers → Type 0
  AreSafeNumbers shelf numbers = (n : ℕ) → Has numbers n → HasSafe held may_leave shelf n

  -- a body that no crash took from the one, no crash takes from the other
  abbrev pub KeepsSafe : S → S → Type 0
  KeepsSafe old new = (n : ℕ) (bytes : List ℕ) → IsSafe held may_leave old n bytes → IsSafe held may_leave new n bytes

module _ {D S F : Type 0} {g : Ghosts D} {s : shelves.Ghosts S F} {f : Ghosts F} where
  -- a body was put on the shelf of a store, or could not be
  pub record Puts (old new : Store D S F g s f) (result : Result BodyFile StoreFault) : Type 0 where
    pub journal : journal_of new ≡ journal_of old
    pub clean : IsClean new → IsClean old
    pub still : IsClean new → KeepsSafe s.held s.may_leave (shelf_of old) (shelf_of new)
    pub put : IfOk result (λ file. HasSafe s.held s.may_leave (shelf_of new) file.number)

  -- Bodies were put on the shelf of a store, and some numbers were noted, which are those of bodies that no crash takes
  -- if all that were noted before are.
  pub record Copies (old new : Store D S F g s f) (before after : Numbers) : Type 0 where
    pub journal : journal_of new ≡ journal_of old
    pub clean : IsClean new → IsClean old
    pub still : IsClean new → KeepsSafe s.held s.may_leave (shelf_of old) (shelf_of new)
    pub safe : IsClean new → AreSafeNumbers s.held s.may_leave (shelf_of old) before
        → AreSafeNumbers s.held s.may_leave (shelf_of new) after
