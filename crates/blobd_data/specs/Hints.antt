-- What to do about a directory that can't be used: it is told behind why.
use Rattle.std.specs.Prelude.{ℕ, List, [], codes}
use Rattle.journal.specs.declared.error.Error.{Error}
use Rattle.journal.specs.declared.error.Error.TheVariants.{NotAJournal, OtherVersion, OtherParameters}
use Rattle.journal_file.specs.declared.fault.OpenFault.{OpenFault}
use Rattle.journal_file.specs.declared.fault.OpenFault.TheVariants.{NotAFolder, Denied, Locked}
use Rattle.upload_journal.specs.declared.replay.ReplayFault.{ReplayFault}
use Rattle.upload_journal.specs.declared.replay.ReplayFault.TheVariants.{NoMemory}
use Rattle.upload_store.specs.declared.fault.StoreFault.{StoreFault}
use Rattle.upload_store.specs.declared.fault.StoreFault.TheVariants.{Journal as OfJournal, Record}
use Rattle.blobd_data.specs.declared.fault.DataFault.{DataFault}
use Rattle.blobd_data.specs.declared.fault.DataFault.TheVariants.{Folder, Journal, Bodies, NotEmpty, NoBodies}
use Rattle.blobd_data.specs.declared.fault.DataFault.TheVariants.{NoJournal, EmptyJournal, BrokenJournal}
use Rattle.blobd_data.specs.declared.fault.DataFault.TheVariants.{HalfMended, Store}

abbrev pub hint_on_folder : OpenFault → List ℕ
hint_on_folder Locked = codes "; stop that one first: `fuser` names it"
hint_on_folder NotAFolder = codes "; name the folder itself"
hint_on_folder Denied = codes "; give it and all that is in it to the user of the server (`chown -R`)"
hint_on_folder fault = []

-- another program has written it
abbrev pub hint_on_journal : Error → List ℕ
hint_on_journal NotAJournal = codes "; use the program that wrote it, or another folder"
hint_on_journal OtherVersion = codes "; use the program that wrote it, or another folder"
hint_on_journal OtherParameters = codes "; use the program that wrote it, or another folder"
hint_on_journal error = []

-- a record can't be run again, but for a want of memory
abbrev pub hint_on_record : ReplayFault → List ℕ
hint_on_record NoMemory = []
hint_on_record fault = codes "; restore a copy, or start without BLOBD_STRICT, which serves the rest"

abbrev pub hint_on_store : StoreFault → List ℕ
hint_on_store (OfJournal error) = hint_on_journal error
hint_on_store (Record refused) = hint_on_record refused.fault
hint_on_store fault = []

abbrev pub hint_on : DataFault → List ℕ
hint_on (Folder fault) = hint_on_folder fault
hint_on (Journal fault) = hint_on_folder fault
hint_on (Bodies fault) = hint_on_folder fault
hint_on NotEmpty = codes "; name a folder that is empty, or isn't there"
hint_on NoBodies = codes "; put them back, or move it away and push again"
hint_on NoJournal = codes "; put that back, or move it away and push again"
hint_on EmptyJournal = codes "; put that back, or move it away and push again"
hint_on BrokenJournal =
    codes "; put the journal back, or start without BLOBD_STRICT, which mends it or goes on without them"
hint_on HalfMended = codes "; start again, which mends more of them"
hint_on (Store fault) = hint_on_store fault
