-- What a `Rescue` shows.
use Rattle.upload_store.specs.declared.files.Files.{Files}
use Rattle.upload_store.specs.declared.rescue.Rescue.{Rescue}
use Rattle.upload_store.specs.Salvage.{Stand}

module _ {S F : Type 0} where
  abbrev pub files_at : Rescue S F → Files S F
  files_at rescue = rescue.rerun.files

  abbrev pub shelf_at : Rescue S F → S
  shelf_at rescue = rescue.rerun.files.shelf

  -- how far it has come
  abbrev pub stand_of : Rescue S F → Stand
  stand_of rescue = record {
    point = rescue.rerun.replay;
    place = rescue.rerun.count;
    lost = rescue.losses.count;
    listed = rescue.losses.listed.items;
    named = rescue.losses.named;
    past = rescue.losses.past;
  }
