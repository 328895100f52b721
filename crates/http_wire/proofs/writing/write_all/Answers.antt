use Rattle.std.proofs.Common.{arith, ◌∙◌, sym, subst, ◌-◌, length, take, drop, length-drop, length-take}
use Rattle.std.proofs.lemmas.List.{take-append-drop}
use Rattle.http_wire.specs.Counts.{CountsUp}
use Rattle.http_wire.specs.Writing.{Takes}
use Rattle.http_wire.proofs.WritingLemmas.{takes_both, takes_kept, taken_more}
use Rattle.http_wire.proofs.writing.write_all.Goals as goal

pub loop-at-preserved : goal.loop-at-preserved
loop-at-preserved g c =
    let bytes = c.args.bytes.now in
    let at = c.loop-at.at in
    let bound = c.in-Ok.ensures.bound in
    let lt = c.loop-at-test.true in
    let sink = g.W.ByteSink.state in
    let left = take (length bytes - at) (drop at bytes) in
    let one : Takes (sink c.loop-at.writer) (sink c.write.new.self) (take c.in-Ok.count left) =
    record { told = c.in-Ok.ensures.told; grown = c.in-Ok.ensures.bytes } in (
      omega (arith, bound, lt, length-drop at bytes, length-take (length bytes - at) (drop at bytes)),
      record {
        takes = subst (Takes (sink c.args.writer.now) (sink c.write.new.self)) (sym (taken_more bytes at c.in-Ok.count))
            (takes_both _ _ _ _ _ c.loop-at.invariant.1.takes one);
        unfailed = c.in-Ok.ensures.ok ∙ c.loop-at.invariant.1.unfailed;
      },
    )

pub returns-in-Err : goal.returns-in-Err
returns-in-Err g c = record {
  front = take c.loop-at.at c.args.bytes.now;
  back = drop c.loop-at.at c.args.bytes.now;
  cut = sym (take-append-drop c.loop-at.at c.args.bytes.now);
  takes = takes_kept _ _ _ _ c.loop-at.invariant.1.takes c.in-Err.ensures.told c.in-Err.ensures.bytes;
  failed =
      subst (λ n. CountsUp n (g.W.ByteSink.state c.write.new.self).failed_writes) c.loop-at.invariant.1.unfailed
      c.in-Err.ensures.err;
}
