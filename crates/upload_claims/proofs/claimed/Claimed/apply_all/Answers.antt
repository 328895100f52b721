use Rattle.std.proofs.Common.{◌∙◌, sym, ap, append_assoc, [], ◌∷◌, arith, rules}
use Rattle.upload_claims.specs.Claims.{Claims}
use Rattle.upload_claims.specs.Fold.{apply}
use Rattle.upload_claims.proofs.Folding.{fold-append}
use Rattle.upload_claims.proofs.claimed.Claimed.apply_all.Goals as goal

pub loop-change-preserved : goal.loop-change-preserved
loop-change-preserved c = record {
  so_far =
      c.in_ok-apply.ensures.ok
      ∙ ap (λ (d : Claims). apply d c.in-Some.change) c.loop-change.invariant.so_far
      ∙ sym (fold-append c.args.self.now c.loop-change.yielded (c.in-Some.change ∷ []));
  order = let e = c.loop-change.invariant.order in let g = c.in-Some.ensures.goes in let s = c.in-Some.ensures.steps in search (rules, arith, append_assoc);
}
