use Rattle.std.proofs.Common.{sym, arith, rules}
use Rattle.upload_service.specs.Machine.{Session}
use Rattle.upload_service.specs.Kept.Tables.{state_of}
use Rattle.upload_service.specs.Kept.Entries.{session_of}
use Rattle.upload_service.proofs.Serving.{turned_away_there, placed_there, nowhere}
use Rattle.upload_service.proofs.turn.place.Goals as goal

pub returns-in_default-clause-err : goal.returns-in_default-clause-err
returns-in_default-clause-err c =
    nowhere (state_of c.args.tables.now) c.args.now c.args.sent c.in_default.ensures.none

pub returns-in-Fits-clause-ok : goal.returns-in-Fits-clause-ok
returns-in-Fits-clause-ok c = search (rules, arith, placed_there)

pub returns-in-Misplaced-clause-err : goal.returns-in-Misplaced-clause-err
returns-in-Misplaced-clause-err c =
    let session : Session = session_of c.in-Some.session.now in
    turned_away_there (state_of c.args.tables.now) c.args.now c.args.sent session c.len-next.result _
    c.in-Some.ensures.found c.in-Some.ensures.named c.len-next.ensures
    (c.in-Misplaced.ensures.verdict c.args.sent.name c.args.sent.at c.args.sent.body (sym c.len-size.ensures))

pub returns-in-Refused-clause-err : goal.returns-in-Refused-clause-err
returns-in-Refused-clause-err c =
    let session : Session = session_of c.in-Some.session.now in
    turned_away_there (state_of c.args.tables.now) c.args.now c.args.sent session c.len-next.result _
    c.in-Some.ensures.found c.in-Some.ensures.named c.len-next.ensures
    (c.in-Refused.ensures.verdict c.args.sent.name c.args.sent.at c.args.sent.body (sym c.len-size.ensures))
