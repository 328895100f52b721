use Rattle.upload_names.specs.Reference.{reference_of}
use Rattle.upload_claims.proofs.reading.reference_of.Goals as goal

pub unreachable-requires : goal.unreachable-requires
unfolding reference_of
unreachable-requires c = cc

pub returns : goal.returns
unfolding reference_of
returns c = cc
