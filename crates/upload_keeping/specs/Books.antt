-- What the books of a keeping say, and that it is so.
use Rattle.std.specs.Prelude.{◌≡◌, ◌≢◌, ℕ, Bool, false, max, List, [], ◌++◌, map, Option, None, IsTrue, IfSome}
use Rattle.std.specs.List.{flat_map}
use Rattle.sqlite_disk.specs.declared.Disk.{Ghosts}
use Rattle.bodies.specs.declared.shelf.Shelf as shelves
use Rattle.journal.specs.Batch.{batch_records}
use Rattle.upload_service.specs.Machine.{State, empty_state}
use Rattle.upload_service.specs.Run.{Exchange}
use Rattle.upload_keeper.specs.Safety.{Asked, answered_so}
use Rattle.upload_journal.specs.Replay.{Point}
use Rattle.upload_store.specs.Runs.{IsReplayOf, start_of}
use Rattle.upload_store.specs.Safe.{IsSafe}
use Rattle.upload_store.specs.Store.{IsClean, IsWhole, MayLeave, kept_of, shelf_of, limits_of, journal_of}
use Rattle.upload_store.specs.declared.store.Store.{Store}
use Rattle.upload_keeping.specs.Exchanges.{IsDrafted}
use Rattle.upload_keeping.specs.Keeping.{Leaves, Settled, Awaits, Goes, Aside}
use Rattle.upload_keeping.specs.declared.entry.Drafted.{Drafted}
use Rattle.upload_keeping.specs.declared.books.Recorded.{Recorded}
use Rattle.upload_keeping.specs.declared.books.Books.{Books}

abbrev pub recorded_by : Recorded → Exchange
recorded_by r = answered_so r.note.value r.answer.value

abbrev pub recorded_in : List Recorded → List Exchange
recorded_in rs = map recorded_by rs

-- the moment to go on at behind a recovery
abbrev pub moment_of : Point → ℕ
moment_of point = max point.last point.upto

module _ {D S F : Type 0} {g : Ghosts D} {s : shelves.Ghosts S F} {f : Ghosts F} where
  -- the service before all that was kept, what was kept round by round, and what waits
  abbrev pub start_in : Books D S F g s f → State
  start_in b = b.start.value.state

  abbrev pub kept_in : Books D S F g s f → List Exchange
  kept_in b = flat_map recorded_in b.kept

  abbrev pub waiting_in : Books D S F g s f → List Exchange
  waiting_in b = recorded_in b.waiting

  -- the store as it was opened, and the moment at which the keeping began
  abbrev pub opened_in : Books D S F g s f → Store D S F g s f
  opened_in b = b.opened.value

  abbrev pub since_in : Books D S F g s f → ℕ
  since_in b = moment_of b.start.value

  -- no record that the store had as it was opened is lost
  abbrev pub is_whole_in : Books D S F g s f → Bool
  is_whole_in b = b.is_whole

  -- a crash left what was kept, and behind it the first of what waits, or none
  pub record LeavesFront (b : Books D S F g s f) (file : List ℕ) (files : ℕ → Option (List ℕ)) : Type 0 where
    pub front : List Exchange
    pub rest : List Exchange
    pub split : waiting_in b ≡ front ++ rest
    pub leaves : Leaves (opened_in b) (since_in b) (kept_in b ++ front) b.upto file files

  -- all that was to be kept is, and what waits is in the batch
  pub record IsGoing (b : Books D S F g s f) : Type 0 where
    pub settled : Settled (opened_in b) (since_in b) (kept_in b) b.upto b.store
    pub awaits : Awaits (waiting_in b) (batch_records b.batch) b.store

  -- What is kept is on the disk, behind what the store had. If no record of that was lost as the keeping began, then it
  -- began with what they come to. Once something was not kept, every crash leaves what was kept before, with the first
  -- of what waited, or none.
  pub record AreKept (b : Books D S F g s f) : Type 0 where
    pub begun : IsTrue b.is_whole → IsClean (opened_in b)
        → IsReplayOf (kept_of (opened_in b)) (s.held (shelf_of (opened_in b)))
        (start_of (empty_state (limits_of (opened_in b)) 0)) b.start.value
    pub goes : Goes (opened_in b) b.store
    pub going : b.fault ≡ None → IsGoing b
    pub idle : b.waits ≡ false → waiting_in b ≡ []
    pub left : b.fault ≢ None → IsClean b.store → IsWhole (opened_in b)
        → (file : List ℕ) (files : ℕ → Option (List ℕ)) → MayLeave b.store file files → LeavesFront b file files

  -- The same without a file of this number, which was written last: nothing names it.
  pub record WithoutIt (b : Books D S F g s f) (before : Store D S F g s f) (number : ℕ) : Type 0 where
    pub kept : AreKept (record b { store = before })
    pub journal : journal_of b.store ≡ journal_of before
    pub aside : Aside before b.store number

  -- what was made ready for this request is its entry up to its answer, and a file that nothing else names
  pub record IsReadyFor (b : Books D S F g s f) (request : Asked) (made : Drafted D S F g s f) : Type 0 where
    pub drafted : IsDrafted (IsSafe s.held s.may_leave (shelf_of b.store)) request made.draft
    pub alone : IfSome made.file (λ file. WithoutIt b made.before.value file.number)
