use Rattle.std.proofs.Common.{◌≡◌, arith, ◌-◌, subst, length-append, rules}
use Rattle.std.specs.Prelude.{Ok, Err}
use Rattle.std.proofs.lemmas.Result.{err_from_is_err_and}
use Rattle.http_wire.specs.Inputs.{input_of}
use Rattle.http_wire.specs.Inner.ChunkReading.{FindsChunk}
use Rattle.http_wire.specs.Inner.BodyReading.{body_state}
use Rattle.http_wire.proofs.Bodies.ChunkReadLemmas.{taken_more, body_whole, body_refused, body_fault}
use Rattle.http_wire.proofs.chunked.read_chunks.Goals as goal

ok-not-err : {A B : Type 0} (a : A) (b : B) → Ok a ≡ Err b → ⊥
ok-not-err a b e = cc

pub loop-chunk-preserved : goal.loop-chunk-preserved
loop-chunk-preserved g c = search (rules, arith, length-append, taken_more, ok-not-err)

pub returns-in-Last-clause-found : goal.returns-in-Last-clause-found
returns-in-Last-clause-found g c =
    let found =
    subst (λ r. FindsChunk (c.args.most - c.len.result) (body_state (input_of g.S.ByteSource.state c.loop-chunk.input)
    (g.B.BodyBuffer.bytes c.loop-chunk.body))
    (body_state (input_of g.S.ByteSource.state c.read_chunk.new.input)
    (g.B.BodyBuffer.bytes c.read_chunk.new.body)) (Ok r))
    c.in-Last.is c.in_ok-read_chunk.ensures.found in
    body_whole c.args.most (input_of g.S.ByteSource.state c.args.input.now)
    (input_of g.S.ByteSource.state c.loop-chunk.input)
    (input_of g.S.ByteSource.state c.read_chunk.new.input) (g.B.BodyBuffer.bytes c.loop-chunk.body)
    (g.B.BodyBuffer.bytes c.read_chunk.new.body)
    c.loop-chunk.invariant.taken found

pub returns-in-Refused-clause-found : goal.returns-in-Refused-clause-found
returns-in-Refused-clause-found g c =
    let found =
    subst (λ r. FindsChunk (c.args.most - c.len.result) (body_state (input_of g.S.ByteSource.state c.loop-chunk.input)
    (g.B.BodyBuffer.bytes c.loop-chunk.body))
    (body_state (input_of g.S.ByteSource.state c.read_chunk.new.input)
    (g.B.BodyBuffer.bytes c.read_chunk.new.body)) (Ok r))
    c.in-Refused.is c.in_ok-read_chunk.ensures.found in
    body_refused c.args.most _ (input_of g.S.ByteSource.state c.args.input.now)
    (input_of g.S.ByteSource.state c.loop-chunk.input) _
    (g.B.BodyBuffer.bytes c.loop-chunk.body) c.in-Refused.bad
    (omega arith) c.loop-chunk.invariant.taken found

pub returns-in_err-read_chunk-clause-found : goal.returns-in_err-read_chunk-clause-found
returns-in_err-read_chunk-clause-found g c =
    let p = err_from_is_err_and c.from_residual.result c.from_residual.ensures.1 in
    rw (p.1, p.2)
    (body_fault c.args.most _ (input_of g.S.ByteSource.state c.args.input.now)
    (input_of g.S.ByteSource.state c.loop-chunk.input)
    (input_of g.S.ByteSource.state c.read_chunk.new.input) (g.B.BodyBuffer.bytes c.loop-chunk.body)
    (g.B.BodyBuffer.bytes c.read_chunk.new.body)
    c.in_err-read_chunk.field-0.0 (omega arith) c.loop-chunk.invariant.taken c.in_err-read_chunk.ensures.found)
