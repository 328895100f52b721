use Rattle.std.proofs.Common.{rules}
use denote.Exit as exit
use denote.Param.Send.{param_send, arg_send, shr_send}
use Rattle.upload_keeper.proofs.Sent.{seat_sent, seat_end_sent}
use Rattle.intake_tests.proofs.OneCall.{both_of_one_call}
use Rattle.intake_tests.proofs.Sent.{three_sent, count_sent}
use Rattle.intake_tests.proofs.seats.fn.taken.scope.Goals as goal

pub spawn_with-requires-send-F : goal.spawn_with-requires-send-F
spawn_with-requires-send-F g c κs within =
    param_send 2 _
    (arg_send _ exit.no _ (three_sent _ _ _ _ (shr_send _ _ _ c.requires.cross) seat_sent seat_sent))

pub spawn_with-requires-send-T : goal.spawn_with-requires-send-T
spawn_with-requires-send-T g c κs within =
    param_send 3 _
    (arg_send _ exit.no _
    (three_sent _ _ _ _ seat_end_sent seat_end_sent count_sent))

pub settle-requires : goal.settle-requires
settle-requires g c =
    both_of_one_call _ _ _ _ _ _ c.requires.of_one_call c.run-served.ensures.same (search rules) (search rules)
