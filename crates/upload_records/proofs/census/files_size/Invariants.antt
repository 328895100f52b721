use Rattle.std.proofs.Common.{◌≡◌, ℕ, take}
use Rattle.std.specs.List.{fold}
use Rattle.upload_journal.specs.declared.body.BodyFile.{BodyFile}
use Rattle.upload_records.specs.Census.{plus}
use Rattle.upload_records.proofs.census.files_size.Given as goal

abbrev pub invariant-loop-file : goal.invariant-loop-file
invariant-loop-file l =
    l.size ≡ fold (λ (size : ℕ) (file : BodyFile). plus size file.len) 0 (take l.file-index l.files)
