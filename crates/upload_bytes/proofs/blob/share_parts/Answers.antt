use Rattle.std.proofs.Common.{arith, rules}
use Rattle.upload_bytes.proofs.SegmentFacts.{concat-behind}
use Rattle.upload_bytes.proofs.blob.share_parts.Goals as goal

pub returns : goal.returns
returns c = search (rules, arith, concat-behind)
