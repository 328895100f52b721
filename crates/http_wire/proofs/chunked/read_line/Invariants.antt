use Rattle.std.proofs.Common.{take, ◌≡◌, ◌≤◌, length}
use Rattle.http_wire.specs.Counts.{CountsAtMost}
use Rattle.http_wire.specs.Inputs.{StaysOver, input_of}
use Rattle.http_wire.specs.Reading.{Gave}
use Rattle.http_wire.specs.Inner.SizeLines.{StandsAt}
use Rattle.http_wire.proofs.chunked.read_line.Given as goal

abbrev pub invariant-loop-at : goal.invariant-loop-at
invariant-loop-at g l = record {
  gave : Gave (input_of g.S.ByteSource.state l.initial.input) (g.S.ByteSource.state l.input.source.now)
      l.input.buffer.now;
  within : l.at ≤ length l.input.buffer.now;
  stands : StandsAt (take l.at l.input.buffer.now) l.state;
  reads : CountsAtMost (g.S.ByteSource.state l.initial.input.source.now).reads
      (g.S.ByteSource.state l.input.source.now).reads l.at;
  same : StaysOver l.initial.input l.input;
  unfailed : (g.S.ByteSource.state l.input.source.now).failed_reads
      ≡ (g.S.ByteSource.state l.initial.input.source.now).failed_reads;
}
