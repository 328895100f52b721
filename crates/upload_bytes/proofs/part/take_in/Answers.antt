use Rattle.std.proofs.lemmas.Grind.{common_steps}
use Rattle.std.proofs.Common.{sym, arith, subst, rules}
use Rattle.std.proofs.lemmas.List.{append-nil, append_assoc}
use Rattle.std.proofs.Math.Seq.{take-length}
use Rattle.upload_bytes.proofs.Parts.{concat-take_next}
use Rattle.upload_bytes.proofs.part.take_in.Goals as goal

pub loop-part-init : goal.loop-part-init
loop-part-init g c = λ before holds. subst (g.H.Digest.holds c.args.hash.now) (sym (append-nil before)) holds

pub loop-part-preserved : goal.loop-part-preserved
loop-part-preserved g c = search (rules, arith, append_assoc, concat-take_next)

pub returns : goal.returns
returns g c = grind (arith, common_steps, take-length)
