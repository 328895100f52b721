use Rattle.std.proofs.Common.{inr, arith, rules}
use Rattle.journal.proofs.Commit.{all_rest}
use Rattle.journal.proofs.gate.blank.Goals as goal

pub returns-in_err-write_sectors-clause-kept : goal.returns-in_err-write_sectors-clause-kept
returns-in_err-write_sectors-clause-kept g c line all len each =
    all_rest line all c.args.gate len c.loop-far.far _ _ _ c.loop-far.invariant.behind c.write_sectors.ensures.crash
    (c.loop-far.invariant.kept line all len each)

pub loop-far-preserved : goal.loop-far-preserved
loop-far-preserved g c = record {
  behind = omega (arith, c.loop-far.invariant.behind);
  even = omega (arith, c.loop-far.invariant.even);
  small = omega arith;
  usable = c.write_sectors.ensures.usable;
  faults = search rules;
  clean = λ clean. c.loop-far.invariant.clean (c.write_sectors.ensures.clean clean);
  written = inr (search rules);
  kept =
      λ line all len each. all_rest line all c.args.gate len c.loop-far.far _ _ _ c.loop-far.invariant.behind
      c.write_sectors.ensures.crash (c.loop-far.invariant.kept line all len each);
}

pub returns-in_err-sync-clause-kept : goal.returns-in_err-sync-clause-kept
returns-in_err-sync-clause-kept g c line all len each left may =
    c.loop-far.invariant.kept line all len each left (c.sync.ensures.crash left may)

pub returns-clause-kept : goal.returns-clause-kept
returns-clause-kept g c line all len each left may =
    c.loop-far.invariant.kept line all len each left (c.sync.ensures.crash left may)
