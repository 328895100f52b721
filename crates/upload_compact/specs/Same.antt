-- When a new journal stands for the same as an old one.
use Rattle.std.specs.Prelude.{◌≡◌, ℕ, max, List, Option}
use Rattle.journal.specs.Format.{Kept}
use Rattle.upload_names.specs.Digest.{Digest}
use Rattle.upload_service.specs.declared.limits.Limits.{Limits}
use Rattle.upload_service.specs.Machine.{State, empty_state, all_awake}
use Rattle.upload_journal.specs.Replay.{Point}
use Rattle.upload_store.specs.Runs.{IsReplayOf, start_of}
use Rattle.upload_compact.specs.Leaving.{forgotten_all}

-- the moment to go on at
abbrev pub moment_of : Point → ℕ
moment_of point = max point.last point.upto

-- the service without the uploads that are idle then
abbrev pub awake_at : Point → State
awake_at point = record point.state { sessions = all_awake point.state (moment_of point) }

-- these batches with these files lead a new service with these limits to this point
abbrev pub LeadsTo : Limits → List Kept → (ℕ → Option (List ℕ)) → Point → Type 0
LeadsTo limits all files point = IsReplayOf all files (start_of (empty_state limits 0)) point

-- The new batches lead to the service that the old ones lead to, but for the uploads that are idle and these pairs of a
-- repository and a blob, and to the same moment. So the next number is the same.
pub record StandsForTheSame (limits : Limits) (old : List Kept) (old_files : ℕ → Option (List ℕ)) (new : List Kept)
    (new_files : ℕ → Option (List ℕ)) (gone : List (List ℕ × Digest)) : Type 0 where
  pub before : Point
  pub after : Point
  pub was : LeadsTo limits old old_files before
  pub is : LeadsTo limits new new_files after
  pub state : after.state ≡ forgotten_all gone (awake_at before)
  pub moment : moment_of after ≡ moment_of before
