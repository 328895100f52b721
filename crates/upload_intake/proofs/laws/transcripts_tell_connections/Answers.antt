use Rattle.upload_intake.proofs.Transcripts.{connections_told}
use Rattle.upload_intake.proofs.laws.transcripts_tell_connections.Goals as goal

pub returns : goal.returns
returns g c = connections_told _
