-- What the records of a journal stand for, with the bodies of a shelf.
use Rattle.std.specs.Prelude.{ℕ, List, [], map, Option, Result, Ok, Err}
use Rattle.std.specs.List.{flat_map}
use Rattle.journal.specs.Format.{Kept}
use Rattle.upload_journal.specs.declared.body.BodyFile.{BodyFile}
use Rattle.upload_journal.specs.declared.body.KeptBody.{KeptBody}
use Rattle.upload_journal.specs.declared.body.KeptBody.TheVariants.{Here, InFiles}
use Rattle.upload_journal.specs.declared.entries.KeptAsk.{KeptAsk}
use Rattle.upload_journal.specs.declared.entries.KeptAsk.TheVariants.{Opening, Single, Mount, Chunk, Close}
use Rattle.upload_journal.specs.declared.entries.Entry.{Entry}
use Rattle.upload_journal.specs.declared.entries.Entry.TheVariants.{Exchange, NumbersUpTo, MomentsUpTo}
use Rattle.upload_journal.specs.declared.fault.EntryFault.{EntryFault}
use Rattle.upload_journal.specs.Entries.{entry_of}

-- the numbers of the files that a body is in
abbrev pub body_numbers : KeptBody → List ℕ
body_numbers (Here body) = []
body_numbers (InFiles files) = map (λ (file : BodyFile). file.number) files

abbrev pub ask_numbers : KeptAsk → List ℕ
ask_numbers (Opening name) = []
ask_numbers (Single name digest body) = body_numbers body
ask_numbers (Mount name digest source) = []
ask_numbers (Chunk name at range body) = body_numbers body
ask_numbers (Close name at range digest body) = body_numbers body

abbrev pub entry_numbers : Entry → List ℕ
entry_numbers (Exchange x) = ask_numbers x.ask
entry_numbers (NumbersUpTo n) = []
entry_numbers (MomentsUpTo m) = []

abbrev pub read_numbers : Result Entry EntryFault → List ℕ
read_numbers (Ok entry) = entry_numbers entry
read_numbers (Err fault) = []

-- the numbers of the files that a record names: those of its entry, if it is one
abbrev pub numbers_of : List ℕ → List ℕ
numbers_of text = read_numbers (entry_of text)

-- a record, and for each number that it names the file
pub record Found : Type 0 where
  pub text : List ℕ
  pub bodies : List (Option (List ℕ))

abbrev pub found_in : (ℕ → Option (List ℕ)) → List ℕ → Found
found_in files text = record { text = text; bodies = map files (numbers_of text) }

-- a batch: its time, and what its records stand for
abbrev pub batch_in : (ℕ → Option (List ℕ)) → Kept → ℕ × List Found
batch_in files kept = (kept.0, map (found_in files) kept.1)

-- what batches and files stand for, whatever crashes made of them
abbrev pub found : List Kept → (ℕ → Option (List ℕ)) → List (ℕ × List Found)
found all files = map (batch_in files) all

-- all records, in order
abbrev pub texts_of : List Kept → List (List ℕ)
texts_of all = flat_map (λ (kept : Kept). kept.1) all
