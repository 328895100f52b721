use Rattle.upload_claims.proofs.Records.{records_are_read_back}
use Rattle.upload_claims.proofs.laws.records_are_read_back.Goals as goal

pub returns : goal.returns
returns c = records_are_read_back
