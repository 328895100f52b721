use Rattle.std.proofs.Common.{◌++◌, ◌∷◌, [], List, ℕ, sym, ap, ◌∙◌}
use Rattle.std.proofs.Common.{append_assoc}
use Rattle.journal.specs.Format.{records}
use Rattle.journal.specs.Reads.{IsFirst}
use Rattle.journal.proofs.Scan.{records_more}
use Rattle.journal.proofs.Pieces.{records_on, left_of}
use Rattle.journal.proofs.replay.run_whole.Goals as goal

pub loop-record-preserved : goal.loop-record-preserved
loop-record-preserved g c =
    let so_far = c.loop-record.invariant in
    let rest = c.loop-record.rest.now in
    let one = c.in-Some.record.now in
    let behind = c.in-Some.behind.now in
    let here : IsFirst rest (one, behind) = c.in-Some.ensures.some in
    let before = so_far.ran in
    record {
      others = λ first kept. c.apply.ensures.keeps first (so_far.others first kept);
      passed = left_of c.args.bytes.now rest (one, behind) here so_far.passed;
      ran = (
        before.0 ++ one ∷ [],
        records_more g.M.Machine.steps c.args.time _ _ _ before.0 one before.1 c.in_ok-apply.ensures.step,
        λ more. before.2 more ∙ ap (λ (l : List (List ℕ)). before.0 ++ l) (records_on rest more (one, behind) here)
            ∙ sym (append_assoc before.0 (one ∷ []) (records (behind ++ more))),
      );
    }
