use Rattle.std.specs.Prelude.{Ok}
use Rattle.std.proofs.lemmas.Result.{err_from_is_err_and}
use Rattle.http_wire.specs.Inputs.{input_of}
use Rattle.upload_client.proofs.AnswerLemmas.{framing_refused, fault_behind, long_behind, reply_behind, unheard_behind}
use Rattle.upload_client.proofs.answer.read_framed.Goals as goal

pub returns-in_err-framing-clause-found : goal.returns-in_err-framing-clause-found
returns-in_err-framing-clause-found g c =
    let e = err_from_is_err_and c.from_residual.result c.from_residual.ensures.1 in
    rw (e.1, e.2)
    (framing_refused c.args.head_only _ (input_of g.S.ByteSource.state c.args.input.now) c.args.parsed.now
    c.in_err-framing.field-0.0
    c.requires c.unread.ensures c.in_err-framing.ensures.framed)

pub returns-in_ok-heard-in-Whole-clause-found : goal.returns-in_ok-heard-in-Whole-clause-found
returns-in_ok-heard-in-Whole-clause-found g c =
    let p = c.args.parsed.now in
    let says = c.in_ok-heard-in-Whole.ensures p.spans.code _ c.said_of-said.ensures in
    reply_behind c.args.head_only c.args.input.now.buffer.now _ _ _ _ _ _ _ p c.in_ok-framing.framing
    (Ok c.in_ok-heard-in-Whole.heard) c.requires c.unread.ensures c.in_ok-framing.ensures.framed
    c.take.ensures.taken (rw (c.in-Whole.is, c.take.ensures.unread) at c.in_ok-read_response_body.ensures.found)
    c.deref.ensures.value says c.response_keeps_connection-keep.ensures

pub returns-in_err-heard-in-Whole-clause-found : goal.returns-in_err-heard-in-Whole-clause-found
returns-in_err-heard-in-Whole-clause-found g c =
    let p = c.args.parsed.now in
    let says = c.in_err-heard-in-Whole.ensures p.spans.code _ c.said_of-said.ensures in
    let e =
    err_from_is_err_and c.from_residual-in_err-heard-in-Whole.result c.from_residual-in_err-heard-in-Whole.ensures.1 in
    rw (e.1, e.2)
    (unheard_behind c.args.head_only c.args.input.now.buffer.now _ _ _ _ _ _ p c.in_ok-framing.framing
    c.in_err-heard-in-Whole.field-0.0 c.requires c.unread.ensures c.in_ok-framing.ensures.framed
    c.take.ensures.taken (rw (c.in-Whole.is, c.take.ensures.unread) at c.in_ok-read_response_body.ensures.found)
    c.deref.ensures.value says)

pub returns-in-TooLarge-clause-found : goal.returns-in-TooLarge-clause-found
returns-in-TooLarge-clause-found g c =
    let p = c.args.parsed.now in
    long_behind c.args.head_only c.args.input.now.buffer.now _ _ _ _ _ p c.in_ok-framing.framing c.requires
    c.unread.ensures c.in_ok-framing.ensures.framed
    c.take.ensures.taken (rw (c.in-TooLarge.is, c.take.ensures.unread) at c.in_ok-read_response_body.ensures.found)

pub returns-in_err-read_response_body-clause-found : goal.returns-in_err-read_response_body-clause-found
returns-in_err-read_response_body-clause-found g c =
    let p = c.args.parsed.now in
    let e =
    err_from_is_err_and c.from_residual-in_err-read_response_body.result
    c.from_residual-in_err-read_response_body.ensures.1 in
    rw (e.1, e.2)
    (fault_behind c.args.head_only c.args.input.now.buffer.now _ _ _ _ _ p c.in_ok-framing.framing
    c.in_err-read_response_body.field-0.0 c.requires c.unread.ensures c.in_ok-framing.ensures.framed
    c.take.ensures.taken (rw c.take.ensures.unread at c.in_err-read_response_body.ensures.found))
