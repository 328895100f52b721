use Rattle.std.proofs.Common.{subst, arith, rules}
use Rattle.std.proofs.lemmas.Result.{err_from_is_err_and}
use Rattle.http_wire.specs.States.{input_state}
use Rattle.upload_wire.specs.RequestText.{ReadsNext}
use Rattle.upload_wire.specs.Inner.Coming.{came_in}
use Rattle.upload_wire.proofs.RequestLemmas.{not_over}
use Rattle.upload_wire.proofs.ToldLemmas.{told_behind, told_unreadable, told_fault}
use Rattle.upload_wire.proofs.connection.ConnectionServer.read_next.Goals as goal

pub returns-in_err-parsed-clause-told : goal.returns-in_err-parsed-clause-told
returns-in_err-parsed-clause-told g c = grind (arith, err_from_is_err_and, told_fault)

pub returns-in-Head-clause-told : goal.returns-in-Head-clause-told
returns-in-Head-clause-told g c =
    let s = c.self.inside.input in
    let first = input_state s.held (g.S.ByteSource.state c.args.reader.now) in
    let mid = input_state c.next_head.new.self.held (g.S.ByteSource.state c.next_head.new.source) in
    let left = input_state c.next_body.new.self.held (g.S.ByteSource.state c.next_body.new.source) in
    rw (← c.self.view_is)
    (told_behind g.O.Observer.told s.max_body first mid c.in_ok-parsed.ensures.gave c.args.observer.now left
    c.hears.new.self c.line.result.method.now c.line.result.target.now (came_in c.next_body.result)
    c.line.ensures c.hears.ensures
    (subst (λ n. ReadsNext n mid left (came_in c.next_body.result)) c.in_ok-parsed.ensures.limit
    c.next_body.ensures.found)
    (not_over c.next_body.result c.next_body.ensures.came))

pub returns-in-Refused-clause-told : goal.returns-in-Refused-clause-told
returns-in-Refused-clause-told g c = search (rules, arith, told_unreadable)

pub returns-in-TooLong-clause-told : goal.returns-in-TooLong-clause-told
returns-in-TooLong-clause-told g c = search (rules, arith, told_unreadable)
