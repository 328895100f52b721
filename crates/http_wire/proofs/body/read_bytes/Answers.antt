use Rattle.std.proofs.Common.{◌-◌, arith}
use Rattle.std.proofs.lemmas.Result.{err_from_is_err_and}
use Rattle.http_wire.specs.Inputs.{input_of}
use Rattle.http_wire.specs.Inner.BodyReading.{body_state}
use Rattle.http_wire.proofs.Bodies.MovedLemmas.{bytes_fault}
use Rattle.http_wire.proofs.body.read_bytes.Goals as goal

pub returns-in_err-left-clause-found : goal.returns-in_err-left-clause-found
returns-in_err-left-clause-found g c =
    let within = c.loop-left.invariant.within in
    let some = c.loop-left-test.true in
    let p = err_from_is_err_and c.from_residual.result c.from_residual.ensures.1 in
    rw (p.1, p.2)
    (bytes_fault _ _ (body_state (input_of g.S.ByteSource.state c.read_part.new.input)
    (g.B.BodyBuffer.bytes c.read_part.new.body))
    (c.args.count - c.loop-left.left) c.loop-left.left c.args.count
    c.in_err-left.field-0.0 c.loop-left.invariant.moved (omega (arith, within, some)) c.in_err-left.ensures.found)
