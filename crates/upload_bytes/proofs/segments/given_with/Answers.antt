use Rattle.std.proofs.Common.{arith, rules}
use Rattle.std.proofs.lemmas.List.{append_assoc}
use Rattle.upload_bytes.proofs.Parts.{concat-take_next}
use Rattle.upload_bytes.proofs.segments.given_with.Goals as goal

pub loop-part-preserved : goal.loop-part-preserved
loop-part-preserved c = search (rules, arith, append_assoc, concat-take_next)
