use Rattle.upload_claims.proofs.Records.{batches_are_read_back}
use Rattle.upload_claims.proofs.laws.batches_are_read_back.Goals as goal

pub returns : goal.returns
returns c = batches_are_read_back
