use Rattle.std.proofs.Common.{◌≡◌, ◌≤◌, length, take}
use Rattle.http_wire.specs.Counts.{CountsAtMost}
use Rattle.http_wire.specs.Inputs.{StaysOver, input_of}
use Rattle.http_wire.specs.Fronts.{line_feeds, HasNone}
use Rattle.http_wire.specs.Reading.{Gave}
use Rattle.http_wire.proofs.head.read_head.Given as goal

abbrev pub invariant-loop-at : goal.invariant-loop-at
invariant-loop-at g l = record {
  within : l.at ≤ length l.input.buffer.now;
  counted : l.lines ≡ line_feeds (take l.at l.input.buffer.now);
  none : HasNone g.G.Grammar.spans.words (take l.at l.input.buffer.now);
  gave : Gave (input_of g.S.ByteSource.state l.initial.input) (g.S.ByteSource.state l.input.source.now)
      l.input.buffer.now;
  reads : CountsAtMost (g.S.ByteSource.state l.initial.input.source.now).reads
      (g.S.ByteSource.state l.input.source.now).reads l.at;
  same : StaysOver l.initial.input l.input;
  unfailed : (g.S.ByteSource.state l.input.source.now).failed_reads
      ≡ (g.S.ByteSource.state l.initial.input.source.now).failed_reads;
}
