use Rattle.std.proofs.Common.{◌⊎◌, ℕ, map}
use Rattle.std.specs.List.{Contains}
use Rattle.upload_journal.specs.declared.body.BodyFile.{BodyFile}
use Rattle.upload_compact.specs.Numbers.{Has}
use Rattle.upload_compact.proofs.numbers.Numbers.add_files.Given as goal

abbrev pub invariant-loop-file : goal.invariant-loop-file
invariant-loop-file l =
    (n : ℕ) → Has l.self n → Has l.fn.self n ⊎ Contains (map (λ (file : BodyFile). file.number) l.files) n
