use Rattle.std.proofs.Common.{subst, take, arith}
use Rattle.std.specs.Prelude.{Ok}
use Rattle.http_wire.specs.States.{input_state}
use Rattle.http_wire.specs.Inputs.{input_of}
use Rattle.upload_wire.specs.Inner.Coming.{came_in}
use Rattle.upload_wire.specs.Inner.RequestReading.{Describes, FindsRequest}
use Rattle.upload_wire.proofs.RequestLemmas.{bad_framing_next, request_next}
use Rattle.upload_wire.proofs.input.read_behind.Goals as goal

pub returns-in-Ok-clause-found : goal.returns-in-Ok-clause-found
returns-in-Ok-clause-found g c =
    let p = c.args.parsed.now in
    let text = c.args.input.now.buffer.now in
    let says =
    subst (λ t. Describes c.args.max_body (take p.spans.len t) p (Ok (Ok c.in-Ok.described))) c.unread.ensures
    (subst (λ r. Describes c.args.max_body (take p.spans.len c.unread.result.now) p (Ok r)) c.in-Ok.is
    c.in_ok-described.ensures.found) in
    let source = g.S.ByteSource.state c.args.input.now.source.now in
    let left = input_of g.S.ByteSource.state c.read_request.new.input in
    let found = subst (λ t. FindsRequest c.in-Ok.described (input_state t source) left (came_in c.read_request.result))
    c.take.ensures.taken (rw c.take.ensures.unread at c.read_request.ensures.found) in
    request_next c.args.max_body source text left p c.in-Ok.described (came_in c.read_request.result) c.requires.head
    says found

pub returns-in-Err-clause-found : goal.returns-in-Err-clause-found
returns-in-Err-clause-found g c = grind (arith, bad_framing_next)
