use Rattle.std.proofs.Common.{◌≡◌, ◌*◌, ◌≤◌, length, []}
use Rattle.http_wire.specs.Counts.{CountsAtMost}
use Rattle.http_wire.specs.Inputs.{StaysOver, input_of}
use Rattle.http_wire.specs.Inner.ChunksRead.{AreTaken}
use Rattle.http_wire.specs.Inner.BodyReading.{body_state}
use Rattle.http_wire.proofs.chunked.read_chunks.Given as goal

abbrev pub invariant-loop-chunk : goal.invariant-loop-chunk
invariant-loop-chunk g l = record {
  taken : AreTaken l.most (body_state (input_of g.S.ByteSource.state l.initial.input) [])
      (body_state (input_of g.S.ByteSource.state l.input) (g.B.BodyBuffer.bytes l.body));
  filled : l._chunk ≤ length (g.B.BodyBuffer.bytes l.body);
  reads : CountsAtMost (g.S.ByteSource.state l.initial.input.source.now).reads
      (g.S.ByteSource.state l.input.source.now).reads (13 * length (g.B.BodyBuffer.bytes l.body));
  same : StaysOver l.initial.input l.input;
  unfailed : (g.S.ByteSource.state l.input.source.now).failed_reads
      ≡ (g.S.ByteSource.state l.initial.input.source.now).failed_reads;
}
