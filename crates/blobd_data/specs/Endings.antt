-- What the end of a journal tells of lost records.
use Rattle.std.specs.Prelude.{Bool, true, false}
use Rattle.journal.specs.declared.ending.Ending.{Ending}
use Rattle.journal.specs.declared.ending.Ending.TheVariants.{Broken}
use Rattle.journal.specs.declared.looking.Looked.{Looked}
use Rattle.blobd_data.specs.declared.open.Missing.{Missing}
use Rattle.blobd_data.specs.declared.open.Missing.TheVariants.{None, Here, Before}

-- Records are lost at an end that no crash leaves; or they were before, if there is the mark of a start that has gone
-- on without them.
abbrev pub missing_by : Ending → Bool → Missing
missing_by Broken mark = Here
missing_by ending true = Before
missing_by ending false = None

abbrev pub missing_of : Looked → Missing
missing_of looked = missing_by looked.ending looked.has_mark
