use Rattle.std.proofs.Common.{arith, subst, rules}
use Rattle.std.specs.Prelude.{Ok}
use Rattle.std.proofs.lemmas.Result.{err_from_is_err_and}
use Rattle.http_wire.specs.Inputs.{input_of}
use Rattle.http_wire.specs.Inner.ChunkReading.{FindsLine}
use Rattle.http_wire.proofs.Bodies.ChunkReadLemmas.{chunk_line_broken, chunk_line_fault, chunk_over, chunk_data_fault}
use Rattle.http_wire.proofs.Bodies.ChunkReadLemmas.{chunk_end_broken, chunk_end_fault, chunk_taken}
use Rattle.http_wire.proofs.chunked.read_chunk.Goals as goal

pub returns-in_default-clause-found : goal.returns-in_default-clause-found
returns-in_default-clause-found g c = search (rules, arith, chunk_line_broken)

pub returns-in_err-size-clause-found : goal.returns-in_err-size-clause-found
returns-in_err-size-clause-found g c =
    let p = err_from_is_err_and c.from_residual.result c.from_residual.ensures.1 in
    rw (p.1, p.2)
    (chunk_line_fault c.args.room (input_of g.S.ByteSource.state c.args.input.now)
    (input_of g.S.ByteSource.state c.read_line.new.input)
    (g.B.BodyBuffer.bytes c.args.body.now) (g.B.BodyBuffer.bytes c.args.body.now)
    c.in_err-size.field-0.0 c.in_err-size.ensures.found)

pub returns-then-size-room-clause-found : goal.returns-then-size-room-clause-found
returns-then-size-room-clause-found g c =
    let line =
    subst (λ r. FindsLine (input_of g.S.ByteSource.state c.args.input.now)
    (input_of g.S.ByteSource.state c.read_line.new.input) (Ok r))
    c.in-Size.is c.in_ok-size.ensures.found in
    chunk_over c.args.room _ (input_of g.S.ByteSource.state c.read_line.new.input) c.in-Size.size line
    c.if-size-room.true

pub returns-in_err-read_bytes-clause-found : goal.returns-in_err-read_bytes-clause-found
returns-in_err-read_bytes-clause-found g c = search (rules, arith, err_from_is_err_and, chunk_data_fault)

pub returns-then-not-branch-clause-found : goal.returns-then-not-branch-clause-found
returns-then-not-branch-clause-found g c = search (rules, arith, chunk_end_broken)

pub returns-in_err-read_line_end-clause-found : goal.returns-in_err-read_line_end-clause-found
returns-in_err-read_line_end-clause-found g c =
    let line =
    subst (λ r. FindsLine (input_of g.S.ByteSource.state c.args.input.now)
    (input_of g.S.ByteSource.state c.read_line.new.input) (Ok r))
    c.in-Size.is c.in_ok-size.ensures.found in
    let p =
    err_from_is_err_and c.from_residual-in_err-read_line_end.result c.from_residual-in_err-read_line_end.ensures.1 in
    rw (p.1, p.2)
    (chunk_end_fault c.args.room (input_of g.S.ByteSource.state c.args.input.now)
    (input_of g.S.ByteSource.state c.read_line.new.input)
    (input_of g.S.ByteSource.state c.read_bytes.new.input) (input_of g.S.ByteSource.state c.read_line_end.new.input)
    (g.B.BodyBuffer.bytes c.args.body.now)
    (g.B.BodyBuffer.bytes c.read_bytes.new.body)
    c.in-Size.size c.in_err-read_line_end.field-0.0 line c.if-size-room.false c.in_ok-read_bytes.ensures.found
    c.in_err-read_line_end.ensures.found)

pub returns-else-size-eq0-clause-found : goal.returns-else-size-eq0-clause-found
returns-else-size-eq0-clause-found g c = search (rules, arith, chunk_taken)
