-- What a recovery of a store leads to, by what its journal and its shelf were.
use Rattle.std.proofs.Common.{◌≡◌, ◌∙◌, ℕ, List, Option, IsTrue, ap, sym, subst}
use Rattle.sqlite_disk.specs.declared.Disk.{Ghosts}
use Rattle.journal.specs.Format.{Kept}
use Rattle.journal.specs.Journal as journals
use Rattle.journal.specs.declared.journal.Journal.{Journal}
use Rattle.bodies.specs.declared.shelf.Shelf as shelves
use Rattle.upload_service.specs.declared.limits.Limits.{Limits}
use Rattle.upload_service.specs.Machine.{State, empty_state}
use Rattle.upload_journal.specs.Replay.{Point}
use Rattle.upload_store.specs.Runs.{IsReplayOf, start_of}
use Rattle.upload_store.specs.Reading.{ReadsOnly}
use Rattle.upload_store.specs.Store.{IsClean, journal_of, shelf_of, kept_of, limits_of}
use Rattle.upload_store.specs.declared.store.Store.{Store}
use Rattle.upload_store.proofs.Reading.{reads_then}
use Rattle.upload_compact.specs.Same.{LeadsTo, moment_of}

module _ {S : Type 0} (held : S → ℕ → Option (List ℕ)) (may_leave : S → ℕ → Option (List ℕ) → Type 0)
    (IsClean : S → Type 0) where
  -- a shelf that was only read has the same files
  pub led : (limits old_limits : Limits) (all old_all : List Kept) (shelf after : S) (point : Point)
      → old_limits ≡ limits → old_all ≡ all → ReadsOnly held may_leave IsClean shelf after
      → IsReplayOf old_all (held after) (start_of (empty_state old_limits 0)) point
      → LeadsTo limits all (held shelf) point
  led limits old_limits all old_all shelf after point same_limits same_all reads ran =
      subst (λ (l : Limits). IsReplayOf all (held shelf) (start_of (empty_state l 0)) point) same_limits
      (subst (λ (k : List Kept). IsReplayOf k (held shelf) (start_of (empty_state old_limits 0)) point) same_all
      (subst (λ (f : ℕ → Option (List ℕ)). IsReplayOf old_all f (start_of (empty_state old_limits 0)) point)
      (λ i n. (reads.all.each n).same i) ran))

  -- a store over a shelf that was told something, and then read
  pub opened_reads : (shelf told before after : S) → ReadsOnly held may_leave IsClean shelf told → before ≡ told
      → ReadsOnly held may_leave IsClean before after → ReadsOnly held may_leave IsClean shelf after
  opened_reads shelf told before after one same two =
      reads_then held may_leave IsClean shelf told after one
      (subst (λ (s : S). ReadsOnly held may_leave IsClean s after) same two)

module _ {D S F : Type 0} {g : Ghosts D} {s : shelves.Ghosts S F} {f : Ghosts F} where
  -- a store that was verified, in its parts
  pub verified_leads : (limits : Limits) (old new : Store D S F g s f) (fresh : Journal D g) (shelf : S)
      (service : State) (moment : ℕ) → limits_of old ≡ limits → fresh ≡ journal_of new → shelf ≡ shelf_of new
      → (IsClean new → kept_of new ≡ kept_of old)
      → (IsClean new → (point : Point) × LeadsTo (limits_of old) (kept_of old) (s.held (shelf_of new)) point
      × (point.state ≡ service) × (moment_of point ≡ moment))
      → IsTrue (g.is_clean (journals.disk_of fresh)) → s.IsClean shelf → (point : Point)
      × LeadsTo limits (journals.kept fresh) (s.held shelf) point × (point.state ≡ service)
      × (moment_of point ≡ moment)
  verified_leads limits old new fresh shelf service moment limits_is fresh_is shelf_is kept same disk shelf_clean =
      let clean : IsClean new = record {
        disk = subst (λ (j : Journal D g). IsTrue (g.is_clean (journals.disk_of j))) fresh_is disk;
        shelf = subst s.IsClean shelf_is shelf_clean;
      } in
      let it = same clean in
      let kept_is : journals.kept fresh ≡ kept_of old = ap (λ (j : Journal D g). journals.kept j) fresh_is ∙ kept clean in (
        it.0,
        subst (λ (l : Limits). LeadsTo l (journals.kept fresh) (s.held shelf) it.0) limits_is
            (subst (λ (all : List Kept). LeadsTo (limits_of old) all (s.held shelf) it.0) (sym kept_is)
            (subst (λ (x : S). LeadsTo (limits_of old) (kept_of old) (s.held x) it.0) (sym shelf_is) it.1)),
        it.2,
        it.3,
      )
