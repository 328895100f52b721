use Rattle.std.proofs.Common.{◌∙◌, arith, rules}
use Rattle.upload_store.proofs.life.restart_each.Goals as goal

pub loop-init : goal.loop-init
loop-init g c = search (rules, arith)

pub loop-preserved : goal.loop-preserved
loop-preserved g c = record {
  safe = λ n bytes safe. c.restart.ensures.safe n bytes (c.loop.invariant.safe n bytes safe);
  limits = c.restart.ensures.limits ∙ c.loop.invariant.limits;
  faults =
      let before = c.loop.invariant.faults in
      let more = c.restart.ensures.faults in
      (omega (arith, before.0, more.0), omega (arith, before.1, more.1));
  clean = λ clean. c.loop.invariant.clean (c.restart.ensures.clean clean);
  any_crash = λ clean file may.
      let last = c.restart.ensures.any_crash clean file may in
      let first = c.loop.invariant.any_crash (c.restart.ensures.clean clean) last.0 last.1 in
      (first.0, first.1, last.2 ∙ first.2);
}
