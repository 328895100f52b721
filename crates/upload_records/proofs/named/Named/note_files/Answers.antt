use Rattle.std.proofs.Common.{◌≡◌, ◌∙◌, ℕ, ◌<◌, below_more, get_or, arith}
use Rattle.std.proofs.lemmas.List.Elements.{All-map, All-from_get_or}
use Rattle.upload_journal.specs.declared.body.BodyFile.{BodyFile}
use Rattle.upload_records.specs.Names.{Has}
use Rattle.upload_records.proofs.named.Named.note_files.Goals as goal

pub loop-file-preserved : goal.loop-file-preserved
loop-file-preserved c = record {
  named = below_more _ _ (λ k h. c.note_file.ensures.more _ (c.loop-file.invariant.named k h)) c.in_ok-note_file.ensures.named;
  more = λ n h. c.note_file.ensures.more n (c.loop-file.invariant.more n h);
  entries = c.note_file.ensures.entries ∙ c.loop-file.invariant.entries;
}

pub returns-clause-named : goal.returns-clause-named
returns-clause-named c =
    let it = c.loop-file.self in
    All-map (Has it) (λ (file : BodyFile). file.number) c.args.files.now
    (All-from_get_or (λ (file : BodyFile). Has it file.number) c.args.files.now (record { number = 0; len = 0 })
    (λ k low. c.loop-file.invariant.named k (omega (arith, low, c.loop-file-test.false))))
