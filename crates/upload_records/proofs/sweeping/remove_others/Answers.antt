use Rattle.std.proofs.Common.{◌∙◌}
use Rattle.upload_records.proofs.Sweeps.{keeps_then}
use Rattle.upload_records.proofs.sweeping.remove_others.Goals as goal

pub loop-number-init : goal.loop-number-init
loop-number-init g c = record {
  keeps = λ n has. c.numbers.ensures.same.each n;
  clean = c.numbers.ensures.clean;
  usable = c.numbers.ensures.usable;
}

pub loop-number-preserved : goal.loop-number-preserved
loop-number-preserved g c = record {
  keeps = λ n has.
      keeps_then _ _ _ _ _ n (c.loop-number.invariant.keeps n has) (c.remove_other.ensures.keeps n has);
  clean = λ clean. c.loop-number.invariant.clean (c.remove_other.ensures.clean clean);
  usable = c.remove_other.ensures.usable ∙ c.loop-number.invariant.usable;
}

pub returns-in_err-there-clause-keeps : goal.returns-in_err-there-clause-keeps
returns-in_err-there-clause-keeps g c n has = c.numbers.ensures.same.each n
