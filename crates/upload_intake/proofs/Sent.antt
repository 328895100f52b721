-- What goes from one thread to another.
use Rattle.std.specs.Prelude.{[], ◌∷◌}
use mir.Syntax.{Sym}
use denote.RattleType.{RattleType}
use denote.Struct.Tuple.{TupleAt, field_at, type_at}
use denote.Struct.Declared.{shape}
use denote.Param.Send.{IsSend, sendable, struct_send, recorded_send}
use Rattle.std.proofs.Crossing as crossing
use Rattle.upload_wire.specs.contracts.connection.ConnectionServer as server
use Rattle.upload_intake.specs.contracts.work.Station as station
use Rattle.upload_intake.specs.contracts.work.Leaving as leaving
use Rattle.upload_intake.proofs.work.Worker.TheSendSync as worker
use Rattle.upload_intake.proofs.work.WorkerEnd.TheSendSync as end
use Rattle.upload_keeper.proofs.Sent.{seat_sent, seat_end_sent}

server_sent : IsSend server.the_row
server_sent = search (crossing.crosses, sendable) depth 60 fits 20000

-- what a worker's thread is given, if what it is lent may go
pub station_sent : (C S G O : RattleType) → IsSend C → IsSend S → IsSend G → IsSend O → IsSend (station.the_row C S G O)
station_sent C S G O c s g o =
    recorded_send (station.the_field C S G O).row _ _ (station.the_type C S G O).to_one
    (struct_send (shape (station.the_type C S G O))
    (seat_sent, (search (worker.the_field_send, c, s, g, o), (server_sent, tt))))

-- what it gives back
pub leaving_sent : (C S G O : RattleType) → IsSend C → IsSend S → IsSend G → IsSend O → IsSend (leaving.the_row C S G O)
leaving_sent C S G O c s g o =
    recorded_send (leaving.the_field C S G O).row _ _ (leaving.the_type C S G O).to_one
    (struct_send (shape (leaving.the_type C S G O))
    (seat_end_sent, (search (worker.the_field_send, c, s, g, o), (end.the_field_send, tt))))

-- what such a thread runs: a reference that may go, and a station
pub run_sent : (ν : Sym) (A B : RattleType) → IsSend A → IsSend B → IsSend (TupleAt ν (A ∷ B ∷ []))
run_sent ν A B a b =
    recorded_send (field_at ν (A ∷ B ∷ [])).row _ _ (type_at ν (A ∷ B ∷ [])).to_one
    (struct_send (shape (type_at ν (A ∷ B ∷ []))) (a, (b, tt)))
