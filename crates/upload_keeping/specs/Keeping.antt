-- What a keeping has on the disk, and what a crash leaves of it.
use Rattle.std.specs.Prelude.{◌≡◌, ◌⊎◌, ℕ, ◌<◌, ◌≤◌, ◌^◌, max, List, [], ◌∷◌, ◌++◌, map, Option, Some, None, IsTrue}
use Rattle.std.specs.List.{All}
use Rattle.sqlite_disk.specs.declared.Disk.{Ghosts}
use Rattle.bodies.specs.declared.shelf.Shelf as shelves
use Rattle.bodies.specs.Shelf.{KeepsOthers}
use Rattle.journal.specs.Format.{stored}
use Rattle.upload_service.specs.Run.{Exchange}
use Rattle.upload_journal.specs.declared.entries.KeptExchange.{KeptExchange}
use Rattle.upload_journal.specs.declared.entries.Entry.{Entry}
use Rattle.upload_journal.specs.declared.entries.Entry.TheVariants.{Exchange as Kept, NumbersUpTo, MomentsUpTo}
use Rattle.upload_journal.specs.Entries.{IsEntry, IsKeptExchange, entry_text}
use Rattle.upload_journal.specs.Replay.{StandFor, IsExchangeOf}
use Rattle.upload_store.specs.Found.{texts_of}
use Rattle.upload_store.specs.Runs.{stands_in}
use Rattle.upload_store.specs.Safe.{IsSafe}
use Rattle.upload_store.specs.Store.{IsClean, IsWhole, MayLeave, kept_of, shelf_of, is_open}
use Rattle.upload_store.specs.declared.store.Store.{Store}

-- the highest moment that entries promise
abbrev pub promised : List Entry → ℕ
promised [] = 0
promised (Kept entry ∷ entries) = promised entries
promised (NumbersUpTo n ∷ entries) = promised entries
promised (MomentsUpTo m ∷ entries) = max m (promised entries)

-- Below, `stands n bytes` says that these bytes stand under the number n.

-- The record is the entry of this exchange: of its request with the whole body, its secret, its moment and its answer.
pub record Records (stands : ℕ → List ℕ → Type 0) (text : List ℕ) (x : Exchange) : Type 0 where
  pub entry : KeptExchange
  pub is_entry : IsKeptExchange entry
  pub text_is : text ≡ entry_text (Kept entry)
  pub is : IsExchangeOf stands entry x

-- Behind the first records stand the entries of just these exchanges, in order and each once. Between them moments are
-- promised: up to this one, if it is after the one from before.
pub record Holds (stands : ℕ → List ℕ → Type 0) (first : List (List ℕ)) (since : ℕ) (exchanges : List Exchange) (upto : ℕ)
    (texts : List (List ℕ)) : Type 0 where
  pub entries : List Entry
  pub are_entries : All IsEntry entries
  pub texts_are : texts ≡ first ++ map entry_text entries
  pub stand_for : StandFor stands entries exchanges
  pub moments : upto ≤ max since (promised entries)

-- These records are the old ones, and behind them a promise of the moments up to this one unless that stood before.
abbrev pub Promises : ℕ → ℕ → List (List ℕ) → List (List ℕ) → Type 0
Promises upto next old new =
    ((next ≡ upto) × (new ≡ old)) ⊎ ((next < 2 ^ 64) × (new ≡ old ++ entry_text (MomentsUpTo next) ∷ []))

module _ {D S F : Type 0} {g : Ghosts D} {s : shelves.Ghosts S F} {f : Ghosts F} where
  -- These are the file of a journal and the files of bodies: all records that the store had as it was opened, with
  -- their bodies, and behind them the entries of these exchanges.
  pub record Leaves (opened : Store D S F g s f) (since : ℕ) (exchanges : List Exchange) (upto : ℕ) (file : List ℕ)
      (files : ℕ → Option (List ℕ)) : Type 0 where
    pub holds : Holds (stands_in files) (texts_of (kept_of opened)) since exchanges upto (texts_of (stored file))
    pub bodies : (n : ℕ) (bytes : List ℕ) → IsSafe s.held s.may_leave (shelf_of opened) n bytes → files n ≡ Some bytes

  -- what a store has, as long as it kept all that it was to keep
  pub record Settled (opened : Store D S F g s f) (since : ℕ) (kept : List Exchange) (upto : ℕ) (store : Store D S F g s f)
      : Type 0 where
    pub stays_open : IsTrue (is_open store)
    pub whole : IsWhole opened → IsWhole store
    pub holds : IsClean store
        → Holds (IsSafe s.held s.may_leave (shelf_of store)) (texts_of (kept_of opened)) since kept upto
        (texts_of (kept_of store))

  -- what is to be kept next, with its bodies on the disk
  abbrev pub Awaits : List Exchange → List (List ℕ) → Store D S F g s f → Type 0
  Awaits waiting texts store =
      IsClean store → Holds (IsSafe s.held s.may_leave (shelf_of store)) [] 0 waiting 0 texts

  -- no body of a store is lost to another one, which it became
  pub record Goes (old new : Store D S F g s f) : Type 0 where
    pub safe : IsClean new → (n : ℕ) (bytes : List ℕ) → IsSafe s.held s.may_leave (shelf_of old) n bytes
        → IsSafe s.held s.may_leave (shelf_of new) n bytes
    pub clean : IsClean new → IsClean old

  -- One store became the other by a file of this number, which had none: all else is as it was.
  pub record Aside (old new : Store D S F g s f) (number : ℕ) : Type 0 where
    pub free : IsClean new → s.held (shelf_of old) number ≡ None
    pub others : KeepsOthers s.held s.may_leave (shelf_of old) (shelf_of new) number
    pub clean : IsClean new → IsClean old

  -- What a store has kept since it was opened is on the disk: every crash leaves just that.
  abbrev pub LeavesJustThat : Store D S F g s f → Type 0
  LeavesJustThat store =
      (opened : Store D S F g s f) (since : ℕ) (kept : List Exchange) (upto : ℕ) → Goes opened store
      → Settled opened since kept upto store → IsClean store → IsWhole opened
      → (file : List ℕ) (files : ℕ → Option (List ℕ)) → MayLeave store file files
      → Leaves opened since kept upto file files

  -- Whatever a store has kept since it was opened, and whatever the records hold, the new one has kept both.
  abbrev pub KeepsBoth : ℕ → ℕ → List (List ℕ) → Store D S F g s f → Store D S F g s f → Type 0
  KeepsBoth upto next texts old new =
      (opened : Store D S F g s f) (since : ℕ) (kept waiting : List Exchange) → Goes opened old
      → Settled opened since kept upto old → Awaits waiting texts old
      → Settled opened since (kept ++ waiting) next new × Goes opened new

  -- Every crash leaves what was kept, or that and all that the records hold.
  abbrev pub LeavesEither : ℕ → List (List ℕ) → Store D S F g s f → Store D S F g s f → Type 0
  LeavesEither upto texts old new =
      (opened : Store D S F g s f) (since : ℕ) (kept waiting : List Exchange) → Goes opened old
      → Settled opened since kept upto old → Awaits waiting texts old → IsClean new → IsWhole opened
      → (file : List ℕ) (files : ℕ → Option (List ℕ)) → MayLeave new file files
      → Leaves opened since kept upto file files ⊎ Leaves opened since (kept ++ waiting) upto file files
