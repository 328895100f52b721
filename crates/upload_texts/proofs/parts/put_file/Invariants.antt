use Rattle.std.proofs.Common.{◌≡◌, ◌≤◌, ◌-◌, List, ℕ, ◌++◌, length, take}
use Rattle.http_wire.specs.States.{SinkState}
use Rattle.http_wire.specs.Inner.Gathering.{Gathered}
use Rattle.upload_texts.proofs.parts.put_file.Given as goal

abbrev pub invariant-loop-at : goal.invariant-loop-at
invariant-loop-at g l = record {
  within : l.at ≤ length l.part;
  whole : l.reader.whole ≡ l.part;
  put : (start : SinkState) (text : List ℕ) → Gathered start (g.W.ByteSink.state l.initial.writer) l.initial.head text
      → Gathered start (g.W.ByteSink.state l.writer) l.head (text ++ take l.at l.part);
}

abbrev pub decreases-loop-at : goal.decreases-loop-at
decreases-loop-at g l = length l.part - l.at
