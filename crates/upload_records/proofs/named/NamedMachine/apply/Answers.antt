use Rattle.upload_records.proofs.Runs.{noted_entry}
use Rattle.upload_records.proofs.named.NamedMachine.apply.Goals as goal

pub returns-in-Ok-note-clause-step : goal.returns-in-Ok-note-clause-step
returns-in-Ok-note-clause-step c =
    noted_entry c.args.self.now c.note.new.self c.args.bytes.now c.in-Ok.entry c.in-Ok.ensures.exact
    c.note.ensures.more c.in-Ok-note.ensures.named c.note.ensures.entries
