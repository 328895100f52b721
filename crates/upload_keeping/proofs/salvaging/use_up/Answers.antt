use Rattle.std.proofs.Common.{rules, arith, ◌≡◌, ◌∷◌, []}
use Rattle.journal.specs.Batch.{batch_records}
use Rattle.upload_journal.specs.declared.entries.Entry.TheVariants.{NumbersUpTo}
use Rattle.upload_journal.specs.Entries.{entry_text}
use Rattle.upload_keeping.proofs.Without.{not_noted}
use Rattle.upload_keeping.proofs.salvaging.use_up.Goals as goal

pub returns-clause-cause : goal.returns-clause-cause
returns-clause-cause g c =
    let is : batch_records c.add.new.self ≡ entry_text (NumbersUpTo c.args.number) ∷ [] = search (rules, arith) in
    not_noted _ _ _ _ _ (λ long. (c.add.new.self, is, long)) c.in-Err.fault c.in-Err.ensures.cause
