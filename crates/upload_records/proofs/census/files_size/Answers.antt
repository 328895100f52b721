use Rattle.std.proofs.Common.{◌≡◌, ◌∙◌, ℕ, List, ap, arith, take}
use Rattle.std.specs.List.{fold}
use Rattle.std.proofs.lemmas.List.{take_all}
use Rattle.std.proofs.lemmas.List.Sums.{fold_more}
use Rattle.upload_journal.specs.declared.body.BodyFile.{BodyFile}
use Rattle.upload_records.specs.Census.{plus}
use Rattle.upload_records.proofs.census.files_size.Goals as goal

abbrev longer : ℕ → BodyFile → ℕ
longer size file = plus size file.len

pub loop-file-preserved : goal.loop-file-preserved
loop-file-preserved c =
    let files : List BodyFile = c.args.files.now in
    let none : BodyFile = record { number = 0; len = 0 } in
    let next = fold_more longer 0 files c.loop-file.file-index none (omega (arith, c.loop-file-test.true)) in
    omega (arith, next, c.saturating_add-size.ensures, c.loop-file.invariant)

pub returns : goal.returns
returns c =
    let files : List BodyFile = c.args.files.now in
    let all : take c.loop-file.file-index files ≡ files =
    take_all c.loop-file.file-index files (omega (arith, c.loop-file-test.false)) in
    c.loop-file.invariant ∙ ap (fold longer 0) all
