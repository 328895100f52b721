use Rattle.std.proofs.Common.{◌≡◌, ℕ, take}
use Rattle.std.specs.Prelude.{max}
use Rattle.std.specs.List.{fold}
use Rattle.upload_journal.specs.declared.body.BodyFile.{BodyFile}
use Rattle.upload_store.specs.Salvage.{one_more}
use Rattle.upload_store.proofs.numbers.past_in.Given as goal

abbrev pub invariant-loop-file : goal.invariant-loop-file
invariant-loop-file l =
    l.high ≡ fold (λ (high : ℕ) (file : BodyFile). max high (one_more file.number)) 0 (take l.file-index l.files)
