use Rattle.std.proofs.Common.{◌≤◌, length, take, subst, ◌∙◌, arith}
use Rattle.journal.specs.Reads.{RunsPast}
use Rattle.journal.proofs.Pieces.{past_piece}
use Rattle.journal.proofs.Places.{take_within}
use Rattle.journal.proofs.replay.run_piece.Goals as goal

pub returns-clause-ran : goal.returns-clause-ran
returns-clause-ran g c clean =
    let file = g.D.Disk.seen c.args.disk.now in
    let piece = c.read_to.new.bytes.items in
    let size = c.min.result in
    past_piece g.M.Machine.steps c.args.time c.args.machine.now c.run_whole.new.machine (take c.args.end file) piece
    c.args.at size c.in_ok-taken.taken
    (take_within file c.args.at size c.args.end (omega arith) ∙ c.in_ok-read_to.ensures.read clean)
    (subst (λ l. c.in_ok-taken.taken ≤ length l) c.deref.ensures.value c.in_ok-taken.ensures.within)
    (subst (λ l. RunsPast g.M.Machine.steps c.args.time c.args.machine.now l c.in_ok-taken.taken c.run_whole.new.machine)
    c.deref.ensures.value c.in_ok-taken.ensures.ran)
