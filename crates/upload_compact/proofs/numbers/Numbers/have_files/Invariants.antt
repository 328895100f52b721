use Rattle.std.proofs.Common.{ℕ, ◌<◌, get_or}
use Rattle.upload_journal.specs.declared.body.BodyFile.{BodyFile}
use Rattle.upload_compact.specs.Numbers.{Has}
use Rattle.upload_compact.proofs.numbers.Numbers.have_files.Given as goal

abbrev none : BodyFile
none = record { number = 0; len = 0 }

abbrev pub invariant-loop-file : goal.invariant-loop-file
invariant-loop-file l = (k : ℕ) → k < l.file-index → Has l.self (get_or l.files k none).number
