use Rattle.std.proofs.Common.{◌≡◌, ◌-◌}
use Rattle.upload_wire.specs.Told.{rules}
use Rattle.upload_wire.specs.Inner.ConversationSteps.{progress_of}
use Rattle.upload_wire.specs.Inner.ToldSteps.{observed}
use Rattle.upload_wire.proofs.ToldLemmas.{SoFarTold}
use Rattle.upload_wire.proofs.connection.ConnectionServer.serve.Given as goal

abbrev pub invariant-loop-end : goal.invariant-loop-end
invariant-loop-end g l =
    SoFarTold (rules g.D.Desk.moves g.O.Observer.told l.initial.self.max_body)
    (observed (progress_of l.initial.self (g.S.ByteSource.state l.initial.reader) l.initial.desk
    (g.W.ByteSink.state l.initial.writer)) l.initial.observer)
    (observed (progress_of l.self (g.S.ByteSource.state l.reader) l.desk (g.W.ByteSink.state l.writer)) l.observer)
    × (l.self.max_body ≡ l.initial.self.max_body)

abbrev pub decreases-loop-end : goal.decreases-loop-end
decreases-loop-end g l = 10000 - l.self.answered
