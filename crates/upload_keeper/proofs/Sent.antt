-- A seat goes from one thread to another.
use denote.Param.Send.{IsSend, sendable}
use Rattle.std.proofs.Crossing as crossing
use Rattle.crossbeam_channel.proofs.channel.Receiver.TheSendSync as receiver
use Rattle.upload_names.proofs.name.RepoName.TheSendSync as name
use Rattle.upload_names.proofs.reference.UploadRef.TheSendSync as reference
use Rattle.upload_names.proofs.digest.BlobDigest.TheSendSync as digest
use Rattle.upload_bytes.proofs.Sent.{blob_sent, body_sent, gone_sent}
use Rattle.upload_service.specs.contracts.ask.GoneChunk as chunk
use Rattle.upload_service.specs.contracts.ask.Request as request
use Rattle.upload_service.specs.contracts.ask.Ask as ask
use Rattle.upload_service.specs.contracts.answer.Answer as answer
use Rattle.upload_service.proofs.ask.Extent.TheSendSync as extent
use Rattle.upload_keeper.specs.contracts.message.Message as message
use Rattle.upload_keeper.proofs.message.Wish.TheSendSync as wish
use Rattle.upload_keeper.proofs.message.WishReply.TheSendSync as wish_reply
use Rattle.upload_keeper.specs.contracts.heard.Heard as heard
use Rattle.upload_keeper.proofs.ends.SendEnd.TheSendSync as send_end
use Rattle.upload_keeper.proofs.ends.TakeEnd.TheSendSync as take_end
use Rattle.upload_keeper.specs.contracts.seat.Seat as seat
use Rattle.upload_keeper.specs.contracts.seat.SeatEnd as seat_end

chunk_sent : IsSend chunk.the_field.row
chunk_sent =
    search (gone_sent, name.the_send, reference.the_send, extent.the_field_send, sendable) depth 60 fits 20000

answer_sent : IsSend answer.the_field.row
answer_sent =
    search (blob_sent, name.the_send, digest.the_send, reference.the_send, crossing.crosses, sendable)
    depth 60 fits 20000

heard_sent : IsSend heard.the_row
heard_sent = search (answer_sent, crossing.crosses, sendable) depth 60 fits 20000

ask_sent : IsSend ask.the_field.row
ask_sent =
    search (
      body_sent,
      name.the_send,
      digest.the_send,
      reference.the_send,
      extent.the_field_send,
      crossing.crosses,
      sendable,
    ) depth 60 fits 20000

request_sent : IsSend request.the_field.row
request_sent = search (chunk_sent, ask_sent, sendable) depth 60 fits 20000

message_sent : IsSend message.the_row
message_sent = search (request_sent, wish.the_field_send, sendable) depth 60 fits 20000

pub seat_sent : IsSend seat.the_row
seat_sent =
    search (
      message_sent,
      wish_reply.the_send,
      heard_sent,
      send_end.the_field_send,
      take_end.the_field_send,
      receiver.the_send,
      crossing.crosses,
      sendable,
    ) depth 60 fits 20000

pub seat_end_sent : IsSend seat_end.the_row
seat_end_sent =
    search (
      message_sent,
      heard_sent,
      send_end.the_field_send,
      take_end.the_field_send,
      crossing.crosses,
      sendable,
    ) depth 60 fits 20000
