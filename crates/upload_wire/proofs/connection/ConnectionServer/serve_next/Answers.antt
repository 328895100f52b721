use Rattle.std.proofs.Common.{◌≡◌, ◌+◌, ◌∙◌, ap, subst, arith, rules}
use Rattle.std.specs.Prelude.{Ok}
use Rattle.upload_wire.specs.Inner.ConversationSteps.{IsRepliedTo, styled}
use Rattle.http_wire.specs.States.{input_state}
use Rattle.http_wire.specs.HeadText.{status_number}
use Rattle.upload_wire.specs.Events.{Replied}
use Rattle.upload_wire.specs.Inner.ToldSteps.{ReadsTold, listening}
use Rattle.upload_wire.specs.Inner.Coming.{came_in}
use Rattle.upload_service.specs.Requests.{ask_in}
use Rattle.http_wire.specs.declared.fault.WireFault.TheVariants.{Read}
use Rattle.upload_wire.proofs.ConversationLemmas.{ok_not_err}
use Rattle.upload_wire.proofs.ToldLemmas.{one_more_told, one_last_told, gone_told, unasked_told}
use Rattle.upload_wire.proofs.ToldLemmas.{refusal_told, stopped_told}
use Rattle.upload_wire.proofs.connection.ConnectionServer.serve_next.Goals as goal

pub returns-in-Ok-Some-clause-goes_on : goal.returns-in-Ok-Some-clause-goes_on
returns-in-Ok-Some-clause-goes_on g c =
    λ none.
    one_more_told g.D.Desk.moves g.O.Observer.told c.args.self.now.max_body c.args.self.now.answered
    c.args.self.now.held c.read_next.new.self.held
    (g.S.ByteSource.state c.args.reader.now) (g.S.ByteSource.state c.read_next.new.reader)
    (ask_in c.in-Ok-Request.request)
    c.in-Ok-Request.style
    c.args.desk.now c.ask_desk.new.desk (g.W.ByteSink.state c.args.writer.now) c.args.observer.now
    c.read_next.new.observer
    (subst (λ n. ReadsTold g.O.Observer.told c.args.self.now.max_body
    (listening (input_state c.args.self.now.held (g.S.ByteSource.state c.args.reader.now)) c.args.observer.now)
    (listening (input_state c.read_next.new.self.held (g.S.ByteSource.state c.read_next.new.reader))
    c.read_next.new.observer) (came_in (Ok n)))
    c.in-Ok-Request.field-0-is c.in-Ok-Request.ensures.told)
    (c.in-Ok-Request.ensures.costs.unfailed (ok_not_err c.in-Ok-Request.field-0 Read))
    c.in-Ok-Some.answer (g.W.ByteSink.state c.reply-end.new.writer) c.tell_reply.new.observer c.tell_reply.ensures
    (subst (λ a. g.D.Desk.moves c.args.desk.now (ask_in c.in-Ok-Request.request) a c.ask_desk.new.desk)
    c.in-Ok-Some.field-0-is c.in-Ok-Some.ensures.asked)
    c.reply-end.new.self.held c.reply-end.new.self.answered c.reply-end.ensures.held
    (subst (λ n. c.reply-end.new.self.answered ≡ n + 1) c.in-Ok-Request.ensures.answered
    (c.reply-end.ensures.counted none))
    c.reply-end.result
    (subst (λ n. IsRepliedTo n (styled c.in-Ok-Some.answer c.in-Ok-Request.style)
    (g.W.ByteSink.state c.args.writer.now) (g.W.ByteSink.state c.reply-end.new.writer) c.reply-end.result)
    c.in-Ok-Request.ensures.answered c.reply-end.ensures.replies)
    none

pub returns-in-Ok-Some-clause-stops : goal.returns-in-Ok-Some-clause-stops
returns-in-Ok-Some-clause-stops g c =
    one_last_told g.D.Desk.moves g.O.Observer.told c.args.self.now.max_body c.args.self.now.answered
    c.args.self.now.held c.read_next.new.self.held
    (g.S.ByteSource.state c.args.reader.now) (g.S.ByteSource.state c.read_next.new.reader)
    (ask_in c.in-Ok-Request.request)
    c.in-Ok-Request.style
    c.args.desk.now c.ask_desk.new.desk (g.W.ByteSink.state c.args.writer.now) c.args.observer.now
    c.read_next.new.observer
    (subst (λ n. ReadsTold g.O.Observer.told c.args.self.now.max_body
    (listening (input_state c.args.self.now.held (g.S.ByteSource.state c.args.reader.now)) c.args.observer.now)
    (listening (input_state c.read_next.new.self.held (g.S.ByteSource.state c.read_next.new.reader))
    c.read_next.new.observer) (came_in (Ok n)))
    c.in-Ok-Request.field-0-is c.in-Ok-Request.ensures.told)
    (c.in-Ok-Request.ensures.costs.unfailed (ok_not_err c.in-Ok-Request.field-0 Read))
    c.in-Ok-Some.answer (g.W.ByteSink.state c.reply-end.new.writer) c.tell_reply.new.observer c.tell_reply.ensures
    (subst (λ a. g.D.Desk.moves c.args.desk.now (ask_in c.in-Ok-Request.request) a c.ask_desk.new.desk)
    c.in-Ok-Some.field-0-is c.in-Ok-Some.ensures.asked)
    c.reply-end.new.self.held c.reply-end.new.self.answered c.reply-end.result
    (subst (λ n. IsRepliedTo n (styled c.in-Ok-Some.answer c.in-Ok-Request.style)
    (g.W.ByteSink.state c.args.writer.now) (g.W.ByteSink.state c.reply-end.new.writer) c.reply-end.result)
    c.in-Ok-Request.ensures.answered c.reply-end.ensures.replies)

pub returns-in-Ok-None-clause-stops : goal.returns-in-Ok-None-clause-stops
returns-in-Ok-None-clause-stops g c =
    gone_told g.D.Desk.moves g.O.Observer.told c.args.self.now.max_body c.args.self.now.answered c.args.self.now.held
    c.read_next.new.self.held
    (g.S.ByteSource.state c.args.reader.now) (g.S.ByteSource.state c.read_next.new.reader)
    (ask_in c.in-Ok-Request.request)
    c.in-Ok-Request.style
    c.args.desk.now c.ask_desk.new.desk (g.W.ByteSink.state c.args.writer.now) c.args.observer.now
    c.read_next.new.observer
    (subst (λ n. ReadsTold g.O.Observer.told c.args.self.now.max_body
    (listening (input_state c.args.self.now.held (g.S.ByteSource.state c.args.reader.now)) c.args.observer.now)
    (listening (input_state c.read_next.new.self.held (g.S.ByteSource.state c.read_next.new.reader))
    c.read_next.new.observer) (came_in (Ok n)))
    c.in-Ok-Request.field-0-is c.in-Ok-Request.ensures.told)
    (c.in-Ok-Request.ensures.costs.unfailed (ok_not_err c.in-Ok-Request.field-0 Read))
    c.read_next.new.self.held c.read_next.new.self.answered
    (subst (λ a. g.D.Desk.moves c.args.desk.now (ask_in c.in-Ok-Request.request) a c.ask_desk.new.desk)
    c.in-Ok-None.field-0-is c.in-Ok-None.ensures.asked)

pub returns-in-Err-ask_desk-clause-stops : goal.returns-in-Err-ask_desk-clause-stops
returns-in-Err-ask_desk-clause-stops g c = search (rules, arith, unasked_told, ok_not_err)

pub returns-in-Ok-Bad-clause-stops : goal.returns-in-Ok-Bad-clause-stops
returns-in-Ok-Bad-clause-stops g c =
    refusal_told g.D.Desk.moves g.O.Observer.told c.args.self.now.max_body c.args.self.now.answered c.args.self.now.held
    c.read_next.new.self.held
    (g.S.ByteSource.state c.args.reader.now) (g.S.ByteSource.state c.read_next.new.reader)
    c.args.desk.now (g.W.ByteSink.state c.args.writer.now) c.args.observer.now c.read_next.new.observer
    c.in-Ok-Bad.why
    (subst (λ n. ReadsTold g.O.Observer.told c.args.self.now.max_body
    (listening (input_state c.args.self.now.held (g.S.ByteSource.state c.args.reader.now)) c.args.observer.now)
    (listening (input_state c.read_next.new.self.held (g.S.ByteSource.state c.read_next.new.reader))
    c.read_next.new.observer) (came_in (Ok n)))
    c.in-Ok-Bad.field-0-is c.in-Ok-Bad.ensures.told)
    (c.in-Ok-Bad.ensures.costs.unfailed (ok_not_err c.in-Ok-Bad.field-0 Read))
    (g.W.ByteSink.state c.refuse-end.new.writer) c.replied.new.self
    (subst (λ n. g.O.Observer.told c.read_next.new.observer (Replied n 0) c.replied.new.self)
    (c.number.ensures ∙ ap status_number c.bad_status.ensures) c.replied.ensures)
    c.read_next.new.self.held c.read_next.new.self.answered c.refuse-end.result c.refuse-end.ensures

pub returns-in-Err-clause-stops : goal.returns-in-Err-clause-stops
returns-in-Err-clause-stops g c = search (rules, arith, stopped_told)
