use Rattle.std.proofs.lemmas.Grind.{common_steps}
use Rattle.std.proofs.Common.{sym, arith, rules}
use Rattle.std.proofs.lemmas.List.{append-nil, append_assoc}
use Rattle.std.proofs.Math.Seq.{take-length}
use Rattle.upload_bytes.proofs.Parts.{take_next}
use Rattle.upload_bytes.proofs.stretch.share_all_into.Goals as goal

pub loop-stretch-init : goal.loop-stretch-init
loop-stretch-init c = sym (append-nil c.args.shares.now.items)

pub loop-stretch-preserved : goal.loop-stretch-preserved
loop-stretch-preserved c = search (rules, arith, take_next, append_assoc)

pub returns : goal.returns
returns c = grind (arith, common_steps, take-length)
