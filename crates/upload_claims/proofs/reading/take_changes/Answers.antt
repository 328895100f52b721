use Rattle.std.proofs.Common.{arith, rules}
use Rattle.std.proofs.lemmas.Result.{err_from_is_err_and}
use Rattle.upload_claims.specs.Texts.{changes_at}
use Rattle.upload_claims.proofs.Taken.{goes_on, ends, is_done}
use Rattle.upload_claims.proofs.reading.take_changes.Goals as goal

pub returns-in_err-take_change : goal.returns-in_err-take_change
returns-in_err-take_change c = search (rules, arith, err_from_is_err_and, ends)

pub loop-preserved : goal.loop-preserved
loop-preserved c =
    rw c.in_ok-push.ensures.items (goes_on c.loop.changes.items c.args.count c.loop.counter c.loop.bytes.now
    c.in_ok-take_change.field-0 c.take_change.new.bytes.now (changes_at c.args.count c.args.bytes.now.now)
    c.loop-test.true c.in_ok-take_change.ensures c.loop.invariant)

pub returns : goal.returns
returns c =
    cc (is_done c.loop.changes.items c.args.count c.loop.counter c.loop.bytes.now (changes_at c.args.count c.args.bytes.now.now) c.loop-test.false c.loop.invariant)
