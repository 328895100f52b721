use Rattle.upload_names.proofs.RangeFacts.{range_of-spells, range_of-spelled}
use Rattle.upload_names.proofs.range.ranges_are_decided.Goals as goal

pub returns : goal.returns
returns c text span = (range_of-spells text span, range_of-spelled text span)
