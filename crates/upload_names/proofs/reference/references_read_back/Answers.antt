use Rattle.upload_names.proofs.ReferenceFacts.{reference_of-text}
use Rattle.upload_names.proofs.reference.references_read_back.Goals as goal

pub returns : goal.returns
returns c at long small = reference_of-text at long small
