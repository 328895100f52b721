use Rattle.std.proofs.Common.{◌≡◌, ◌-◌, ◌≤◌}
use Rattle.http_wire.specs.Counts.{CountsAtMost}
use Rattle.http_wire.specs.Inputs.{StaysOver, input_of}
use Rattle.http_wire.specs.Inner.BodyReading.{Moved, body_state}
use Rattle.http_wire.proofs.body.read_bytes.Given as goal

abbrev pub invariant-loop-left : goal.invariant-loop-left
invariant-loop-left g l = record {
  within : l.left ≤ l.fn.count;
  moved : Moved (body_state (input_of g.S.ByteSource.state l.initial.input)
      (g.B.BodyBuffer.bytes l.initial.body))
      (body_state (input_of g.S.ByteSource.state l.input) (g.B.BodyBuffer.bytes l.body))
      (l.fn.count - l.left);
  reads : CountsAtMost (g.S.ByteSource.state l.initial.input.source.now).reads
      (g.S.ByteSource.state l.input.source.now).reads (l.fn.count - l.left);
  same : StaysOver l.initial.input l.input;
  unfailed : (g.S.ByteSource.state l.input.source.now).failed_reads
      ≡ (g.S.ByteSource.state l.initial.input.source.now).failed_reads;
}

abbrev pub decreases-loop-left : goal.decreases-loop-left
decreases-loop-left g l = l.left
