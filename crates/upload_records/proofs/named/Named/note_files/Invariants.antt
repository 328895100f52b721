use Rattle.std.proofs.Common.{◌≡◌, ℕ, ◌<◌, get_or}
use Rattle.upload_journal.specs.declared.body.BodyFile.{BodyFile}
use Rattle.upload_records.specs.Names.{Has, are_entries}
use Rattle.upload_records.proofs.named.Named.note_files.Given as goal

abbrev none : BodyFile
none = record { number = 0; len = 0 }

abbrev pub invariant-loop-file : goal.invariant-loop-file
invariant-loop-file l = record {
  named : (k : ℕ) → k < l.file-index → Has l.self (get_or l.files k none).number;
  more : (n : ℕ) → Has l.fn.self n → Has l.self n;
  entries : are_entries l.self ≡ are_entries l.fn.self;
}
