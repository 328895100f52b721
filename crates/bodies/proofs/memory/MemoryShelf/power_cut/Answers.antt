use Rattle.std.proofs.Common.{◌∙◌, arith, refl}
use Rattle.bodies.proofs.Cuts.{cut_more}
use Rattle.bodies.proofs.Staying.{stays}
use Rattle.bodies.proofs.memory.MemoryShelf.power_cut.Goals as goal

pub returns-in_default-clause-cut : goal.returns-in_default-clause-cut
returns-in_default-clause-cut c =
    record { left = λ n. stays c.args.self.now.calls.items n; fewer = λ n file h. h }

pub loop-number-init : goal.loop-number-init
loop-number-init c = record {
  cut = record { left = λ n. stays c.args.self.now.calls.items n; fewer = λ n file h. h };
  usable = refl;
  faults = omega arith;
}

pub loop-number-preserved : goal.loop-number-preserved
loop-number-preserved c = record {
  cut =
      cut_more c.args.self.now c.loop-number.self c.cut_one.new.self _ c.loop-number.invariant.cut
      c.cut_one.ensures.cut;
  usable = c.cut_one.ensures.usable ∙ c.loop-number.invariant.usable;
  faults = omega (arith, c.loop-number.invariant.faults, c.cut_one.ensures.faults);
}
