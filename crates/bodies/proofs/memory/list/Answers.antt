use Rattle.std.proofs.Common.{◌-◌, arith, subst}
use Rattle.bodies.specs.MemoryFiles.{AreListed}
use Rattle.bodies.proofs.Listing.{kept, added}
use Rattle.bodies.proofs.memory.list.Goals as goal

-- src/memory.rt:95:5
pub loop-left-preserved : goal.loop-left-preserved
loop-left-preserved c =
    let step = kept c.args.calls.now (c.loop-left.left - 1) c.loop-left.left
    c.index-calls-left.result c.index-calls-left.is (omega arith) (omega arith) in (
      omega arith,
      step c.loop-left.numbers.items c.loop-left.invariant.1
          (subst (AreListed c.args.calls.now c.index-calls-left.result) c.deref.ensures.value
          c.in_default.ensures.none),
    )

-- src/memory.rt:95:5
pub loop-left-preserved-in-Continue-1 : goal.loop-left-preserved-in-Continue-1
loop-left-preserved-in-Continue-1 c =
    let step = added c.args.calls.now (c.loop-left.left - 1) c.loop-left.left
    c.index-calls-left.result c.index-calls-left.is (omega arith) (omega arith) in (
      omega arith,
      search (
        step c.loop-left.numbers.items c.in-Some.number c.in-Some.ensures.some.1
            c.loop-left.invariant.1 c.in-Some.ensures.some.0,
        c.in_ok-push.ensures.items,
      ),
    )
