-- What a `Rerun` shows.
use Rattle.upload_journal.specs.Replay.{Point}
use Rattle.upload_store.specs.declared.rerun.Rerun.{Rerun}

module _ {S F : Type 0} where
  abbrev pub shelf_in : Rerun S F → S
  shelf_in rerun = rerun.files.shelf

  -- how far it has come
  abbrev pub point_in : Rerun S F → Point
  point_in rerun = rerun.replay
