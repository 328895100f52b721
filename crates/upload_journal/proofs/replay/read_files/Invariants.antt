use Rattle.std.proofs.Common.{take}
use Rattle.upload_journal.specs.Replay.{Joins}
use Rattle.upload_journal.proofs.Replays.{Keeps, KeepsMore}
use Rattle.upload_journal.proofs.replay.read_files.Given as goal

abbrev pub invariant-loop-file : goal.invariant-loop-file
invariant-loop-file g l = record {
  joins : Joins (g.B.Bodies.stands l.bodies) (take l.file-index l.files) l.body;
  keeps : Keeps (g.B.Bodies.stands l.fn.bodies) (g.B.Bodies.stands l.bodies);
  others : KeepsMore g.B.Bodies.keeps l.fn.bodies l.bodies;
}
