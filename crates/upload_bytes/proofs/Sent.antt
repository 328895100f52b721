-- Bytes go from one thread to another, wherever they are.
use denote.Param.Send.{IsSend, IsSync, sendable}
use Rattle.std.proofs.Crossing as crossing
use Rattle.http_wire.proofs.history.History.TheLaws.TheKnot as history
use Rattle.upload_bytes.specs.contracts.body.Body as body
use Rattle.upload_bytes.specs.contracts.filed.FilePart as part
use Rattle.upload_bytes.specs.contracts.front.Front as front
use Rattle.upload_bytes.specs.contracts.gone.Gone as gone
use Rattle.upload_bytes.specs.contracts.in_files.InFiles as files
use Rattle.upload_bytes.specs.contracts.shared.BlobBytes as blob
use Rattle.upload_bytes.specs.contracts.spool.SyncedFile as file
use Rattle.upload_bytes.specs.contracts.stretch.Stretch as stretch

file_sent : IsSend file.the_row
file_sent = search (crossing.crosses, history.crosses, sendable) depth 60 fits 20000

file_shared : IsSync file.the_row
file_shared = search (crossing.crosses, history.crosses, sendable) depth 60 fits 20000

part_sent : IsSend part.the_row
part_sent = search (file_sent, file_shared, crossing.crosses, sendable) depth 60 fits 20000

stretch_sent : IsSend stretch.the_row
stretch_sent = search (part_sent, file_sent, file_shared, crossing.crosses, sendable) depth 60 fits 20000

files_sent : IsSend files.the_row
files_sent = search (stretch_sent, crossing.crosses, sendable) depth 60 fits 20000

pub blob_sent : IsSend blob.the_row
blob_sent = search (stretch_sent, crossing.crosses, sendable) depth 60 fits 20000

pub front_sent : IsSend front.the_row
front_sent = search (crossing.crosses, sendable) depth 60 fits 20000

pub body_sent : IsSend body.the_row
body_sent = search (file_sent, files_sent, front_sent, crossing.crosses, sendable) depth 60 fits 20000

pub gone_sent : IsSend gone.the_row
gone_sent = search (crossing.crosses, history.crosses, sendable) depth 60 fits 20000
