use Rattle.std.proofs.Common.{◌∙◌, sym, subst, arith}
use Rattle.journal.specs.Line.{BeginsWith}
use Rattle.journal.proofs.life.restart_each.Goals as goal

pub loop-i-preserved : goal.loop-i-preserved
loop-i-preserved g c =
    let so_far = c.loop-i.invariant in
    record {
      line = c.restart.ensures.line ∙ so_far.line;
      faults = omega (arith, so_far.faults, c.restart.ensures.faults);
      front = λ all clean file may.
          subst (λ l. BeginsWith l file) so_far.line
          (c.restart.ensures.front (λ d was. subst (λ l. BeginsWith l d) (sym so_far.line)
          (so_far.front all (c.restart.ensures.clean clean) d was)) clean file may);
      clean = λ clean. so_far.clean (c.restart.ensures.clean clean);
      any_crash = λ clean file may.
          let last = c.restart.ensures.any_crash clean file may in
          let first = so_far.any_crash (c.restart.ensures.clean clean) last.0 last.1 in
          (first.0, first.1, last.2 ∙ first.2);
    }
