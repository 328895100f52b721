use denote.Param.Send.{IsSend, sendable, struct_send, recorded_send}
use denote.Struct.Declared.{shape}
use Rattle.std.proofs.Crossing as crossing
use Rattle.journal_file.proofs.notes.Notes.TheLaws.TheKnot as notes
use Rattle.upload_bytes.proofs.Sent.{body_sent, front_sent}
use Rattle.bodies.specs.contracts.reader.BodyReader as reader
use Rattle.bodies.specs.contracts.whole.Whole as whole
use Rattle.bodies.specs.contracts.whole.Wholes as wholes
use Rattle.bodies.proofs.ahead.AheadShelf.begin.Goals as goal

reader_sent : IsSend reader.the_field.row
reader_sent = search (crossing.crosses, notes.crosses, sendable) depth 60 fits 20000

whole_sent : IsSend whole.the_row
whole_sent =
    recorded_send whole.the_field.row _ _ whole.the_type.to_one
    (struct_send (shape whole.the_type) (reader_sent, (body_sent, tt)))

wholes_sent : IsSend wholes.the_row
wholes_sent =
    recorded_send wholes.the_field.row _ _ wholes.the_type.to_one
    (struct_send (shape wholes.the_type) (
      search (whole_sent, crossing.crosses, sendable) depth 60 fits 20000,
      (
        search (body_sent, crossing.crosses, sendable) depth 60 fits 20000,
        (search (front_sent, crossing.crosses, sendable) depth 60 fits 20000, tt),
      ),
    ))

-- what a thread has read may go to another
pub spawn-requires-send-T : goal.spawn-requires-send-T
spawn-requires-send-T g c κs within = search (wholes_sent, crossing.crosses, sendable) depth 60 fits 20000
