use Rattle.std.proofs.Common.{List, ℕ, ◌++◌, take}
use Rattle.std.specs.List.{concat}
use Rattle.http_wire.specs.States.{SinkState}
use Rattle.http_wire.specs.Inner.Gathering.{Gathered}
use Rattle.upload_texts.proofs.parts.put_stretches.Given as goal

abbrev pub invariant-loop-stretch : goal.invariant-loop-stretch
invariant-loop-stretch g l = (start : SinkState) (text : List ℕ)
    → Gathered start (g.W.ByteSink.state l.initial.writer) l.initial.head text
    → Gathered start (g.W.ByteSink.state l.writer) l.head (text ++ concat (take l.stretch-index l.stretches))
