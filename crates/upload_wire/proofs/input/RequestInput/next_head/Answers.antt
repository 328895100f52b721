use Rattle.http_wire.proofs.Heads.HeadLaws.{request_laws}
use Rattle.upload_wire.proofs.input.RequestInput.next_head.Goals as goal

pub read_head-requires : goal.read_head-requires
read_head-requires g c = record { lawful = request_laws }
