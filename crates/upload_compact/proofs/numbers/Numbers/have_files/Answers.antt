use Rattle.std.proofs.Common.{arith}
use Rattle.std.proofs.lemmas.List.Elements.{All-map, All-from_get_or}
use Rattle.upload_journal.specs.declared.body.BodyFile.{BodyFile}
use Rattle.upload_compact.specs.Numbers.{Has}
use Rattle.upload_compact.proofs.numbers.Numbers.have_files.Goals as goal

pub returns : goal.returns
returns c is =
    let it = c.args.self.now in
    All-map (Has it) (λ (file : BodyFile). file.number) c.args.files.now
    (All-from_get_or (λ (file : BodyFile). Has it file.number) c.args.files.now (record { number = 0; len = 0 })
    (λ k low. c.loop-file.invariant k (omega (arith, low, c.loop-file-test.false))))
