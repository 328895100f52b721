use Rattle.upload_keeper.specs.Seats.{IsSameSeat}
use Rattle.intake_tests.proofs.seats.ask_by_turns.Given as goal

abbrev pub invariant-loop-turn : goal.invariant-loop-turn
invariant-loop-turn g l = IsSameSeat l.fn.left l.left × IsSameSeat l.fn.right l.right
