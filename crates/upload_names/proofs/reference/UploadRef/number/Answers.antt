use Rattle.upload_names.proofs.ReferenceFacts.{number_of-bytes}
use Rattle.upload_names.proofs.reference.UploadRef.number.Goals as goal

pub returns : goal.returns
returns c = cc (number_of-bytes c.as_bytes-bytes.result.now c.from_be_bytes.result c.from_be_bytes.ensures)
