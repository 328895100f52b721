use Rattle.std.proofs.Common.{arith, rules}
use Rattle.std.proofs.lemmas.Result.{err_from_is_err_and}
use Rattle.upload_journal.specs.Fields.{files_of}
use Rattle.upload_journal.proofs.Files.{goes_on, ends, is_done}
use Rattle.upload_journal.proofs.reading.take_files.Goals as goal

pub returns-in_err-take_file : goal.returns-in_err-take_file
returns-in_err-take_file c = search (rules, arith, err_from_is_err_and, ends)

pub loop-preserved : goal.loop-preserved
loop-preserved c =
    rw c.in_ok-push.ensures.items (goes_on c.loop.files.items c.args.count c.loop.counter c.loop.bytes.now
    c.in_ok-take_file.field-0 c.take_file.new.bytes.now (files_of c.args.count c.args.bytes.now.now)
    c.loop-test.true c.in_ok-take_file.ensures c.loop.invariant)

pub returns : goal.returns
returns c =
    cc (is_done c.loop.files.items c.args.count c.loop.counter c.loop.bytes.now (files_of c.args.count c.args.bytes.now.now) c.loop-test.false c.loop.invariant)
