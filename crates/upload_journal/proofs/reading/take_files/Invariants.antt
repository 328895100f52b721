use Rattle.std.proofs.Common.{◌≡◌, ◌-◌}
use Rattle.upload_journal.specs.Fields.{files_of}
use Rattle.upload_journal.proofs.Files.{with_front}
use Rattle.upload_journal.proofs.reading.take_files.Given as goal

abbrev pub invariant-loop : goal.invariant-loop
invariant-loop l =
    with_front l.files.items (files_of (l.count - l.counter) l.bytes.now) ≡ files_of l.count l.fn.bytes.now
