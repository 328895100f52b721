use Rattle.std.proofs.Common.{arith, rules}
use Rattle.upload_push.proofs.Quiet.{alone_is_quiet}
use Rattle.upload_push.proofs.Lossy.{look_worth, worth}
use Rattle.upload_push.proofs.Worth.{worth_in_run}
use Rattle.upload_push.proofs.laws.push_promise.Goals as goal

pub returns-clause-promise : goal.returns-clause-promise
returns-clause-promise c = worth (record {
  headline = c.headline_holds.ensures;
  others = c.others_leave_a_session.ensures;
  reads = λ name at is. c.written_places_are_read.ensures name at is.sixteen is.bytes;
})

pub returns-clause-in_runs : goal.returns-clause-in_runs
returns-clause-in_runs c = worth_in_run (record {
  headline = c.headline_holds.ensures;
  others = c.others_leave_a_session.ensures;
  reads = λ name at is. c.written_places_are_read.ensures name at is.sixteen is.bytes;
})

pub returns-clause-alone : goal.returns-clause-alone
returns-clause-alone c = alone_is_quiet

pub returns-clause-look : goal.returns-clause-look
returns-clause-look c = search (rules, arith, look_worth)
