use Rattle.std.proofs.Common.{arith, rules}
use Rattle.std.proofs.lemmas.List.{append_assoc}
use Rattle.upload_bytes.proofs.segments.settle_all.Goals as goal

pub loop-part-preserved : goal.loop-part-preserved
loop-part-preserved c = search (rules, arith, append_assoc)

pub unreachable-requires : goal.unreachable-requires
unreachable-requires c = search (rules, arith)
