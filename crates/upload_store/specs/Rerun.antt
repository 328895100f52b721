-- What a record makes of a service, with the bodies of a shelf.
use Rattle.std.specs.Prelude.{◌≡◌, ℕ, List, Option}
use Rattle.upload_journal.specs.declared.entries.Entry.{Entry}
use Rattle.upload_journal.specs.Entries.{IsEntry, entry_text}
use Rattle.upload_journal.specs.Replay.{Point, Applies}
use Rattle.upload_store.specs.Reading.{ReadsOnly, StandsIn}

-- The record is the text of an entry, which is applied; its bodies are read from the shelf, and nothing is changed
-- there.
pub record Steps {S : Type 0} (held : S → ℕ → Option (List ℕ)) (may_leave : S → ℕ → Option (List ℕ) → Type 0)
    (IsClean : S → Type 0) (old : S) (before : Point) (text : List ℕ) (new : S) (after : Point) : Type 0 where
  pub entry : Entry
  pub is_entry : IsEntry entry
  pub text_is : text ≡ entry_text entry
  pub applies : Applies (StandsIn held IsClean new) before entry after
  pub reads : ReadsOnly held may_leave IsClean old new
