-- WHAT A RESTART HAS OF WHAT WAS TOLD: all of it, whatever a crash leaves, if no record was lost as the keeping began;
-- and that there is such a restart.
use Rattle.std.specs.Prelude.{◌≡◌, ℕ, ◌≤◌, List, [], ◌∷◌, ◌++◌, map, Option, IsTrue}
use Rattle.sqlite_disk.specs.declared.Disk.{Ghosts}
use Rattle.bodies.specs.declared.shelf.Shelf as shelves
use Rattle.journal.specs.Format.{stored}
use Rattle.upload_service.specs.declared.answer.Answer.{Answer}
use Rattle.upload_service.specs.declared.limits.Limits.{Limits}
use Rattle.upload_service.specs.Machine.{State, empty_state}
use Rattle.upload_service.specs.Headline.{Headline}
use Rattle.upload_service.specs.Run.{Exchange, Run, NeverBefore}
use Rattle.upload_keeper.specs.Restarts.{asked_of, HasAnswer}
use Rattle.upload_keeper.specs.Safety.{MayBeHeard}
use Rattle.upload_journal.specs.Replay.{Point}
use Rattle.upload_store.specs.Runs.{IsReplayOf, start_of}
use Rattle.upload_store.specs.Store.{IsClean, IsWhole, MayLeave, limits_of}
use Rattle.upload_keeping.specs.Books.{moment_of, start_in, kept_in, waiting_in, opened_in, since_in, is_whole_in}
use Rattle.upload_keeping.specs.declared.books.Books.{Books}

-- a recovery by a service with these limits, of this file of a journal and these files of bodies, comes so far
abbrev pub Recovers : Limits → List ℕ → (ℕ → Option (List ℕ)) → Point → Type 0
Recovers limits file files point = IsReplayOf (stored file) files (start_of (empty_state limits 0)) point

-- The service that was recovered has an answer that was heard when these exchanges were kept: it is that service,
-- behind them and what was kept since. It goes on at a moment that is not before any that was promised.
pub record HasTold (start : State) (kept since : List Exchange) (heard upto : ℕ) (answer : Answer) (point : Point)
    : Type 0 where
  pub later : List Exchange
  pub same : map asked_of later ≡ map asked_of since
  pub has : HasAnswer start (kept ++ later) point.state heard answer
  pub moment : upto ≤ moment_of point

module _ {D S F : Type 0} {g : Ghosts D} {s : shelves.Ghosts S F} {f : Ghosts F} where
  -- Whatever was heard before, when the first of what is kept was kept: each crash leaves a journal and bodies from
  -- which each recovery has it. What was kept since is there too, and of what waits the first, or none.
  abbrev pub KeepsWhatIsTold : Books D S F g s f → Type 0
  KeepsWhatIsTold b =
      IsTrue (is_whole_in b) → (kept more : List Exchange) (heard : ℕ) (answer : Answer) → MayBeHeard (start_in b) kept heard answer
      → kept_in b ≡ kept ++ more → IsClean b.store → IsWhole (opened_in b)
      → (file : List ℕ) (files : ℕ → Option (List ℕ)) → MayLeave b.store file files
      → (point : Point) → Recovers (limits_of (opened_in b)) file files point
      → (front : List Exchange) × (rest : List Exchange) × (waiting_in b ≡ front ++ rest)
      × HasTold (start_in b) kept (more ++ front) heard b.upto answer point

  -- Once all that changed something is kept, the headline holds over a restart: of all that was served up to then, also
  -- of what changed nothing and is kept nowhere, and of what the recovered service answers, at moments from its own on.
  abbrev pub HoldsOverRestarts : Books D S F g s f → Type 0
  HoldsOverRestarts b =
      IsTrue (is_whole_in b) → (heard : ℕ) (answer : Answer) (may : MayBeHeard (start_in b) (kept_in b) heard answer)
      → waiting_in b ≡ [] → heard ≤ b.upto → IsClean b.store → IsWhole (opened_in b)
      → (file : List ℕ) (files : ℕ → Option (List ℕ)) → MayLeave b.store file files
      → (point : Point) → Recovers (limits_of (opened_in b)) file files point
      → (more : List Exchange) (service : State) → NeverBefore (moment_of point) more → Run point.state more service
      → Headline (start_in b) (may.front ++ may.x ∷ may.rest ++ more) service

  -- Each crash leaves what a recovery goes over to its end, if what was kept and what waits is a run, at no moment
  -- before that at which the keeping began.
  abbrev pub CanBeRunAgain : Books D S F g s f → Type 0
  CanBeRunAgain b =
      IsTrue (is_whole_in b) → (service : State) → Run (start_in b) (kept_in b ++ waiting_in b) service
      → NeverBefore (since_in b) (kept_in b ++ waiting_in b) → IsClean b.store → IsWhole (opened_in b)
      → (file : List ℕ) (files : ℕ → Option (List ℕ)) → MayLeave b.store file files
      → (point : Point) × Recovers (limits_of (opened_in b)) file files point
