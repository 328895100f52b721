use Rattle.std.proofs.Common.{Some, None, take, subst, ◌∙◌, rules}
use Rattle.journal.specs.Reads.{Finds, RunsTo}
use Rattle.journal.proofs.Pieces.{to_more, to_record, to_end}
use Rattle.journal.proofs.replay.run_records.Goals as goal

pub loop-at-preserved : goal.loop-at-preserved
loop-at-preserved g c =
    let so_far = c.loop-at.invariant in
    let one = c.run_piece.ensures.reads in
    let two = c.read_record.ensures.reads in
    let steps = g.M.Machine.steps in
    let old = c.args.machine.now in
    let file = take c.args.end (g.D.Disk.seen c.args.disk.now) in
    let bytes = c.read_record.new.bytes.items in
    record {
      within = search rules;
      reads = record {
        seen = two.seen ∙ one.seen ∙ so_far.reads.seen;
        clean = λ clean. so_far.reads.clean (one.clean (two.clean clean));
        usable = two.usable;
        faults = search rules;
        crash = λ left may. so_far.reads.crash left (one.crash left (two.crash left may));
      };
      others = λ first kept. c.apply.ensures.keeps first (c.run_piece.ensures.keeps first (so_far.others first kept));
      ran = λ clean.
          let mid_clean = two.clean clean in
          let piece = subst (λ f. RunsTo steps c.args.time c.loop-at.machine (take c.args.end f) c.loop-at.at c.in_ok-at.at
          c.run_piece.new.machine) so_far.reads.seen (c.in_ok-at.ensures.ran mid_clean) in
          let run = to_more steps c.args.time old file c.args.start c.loop-at.machine c.run_piece.new.machine
          c.loop-at.at c.in_ok-at.at (so_far.ran (one.clean mid_clean)) piece in
          let found = subst (λ f. Finds (take c.args.end f) c.in_ok-at.at bytes (Some c.in-Some.next))
          (one.seen ∙ so_far.reads.seen)
          (subst (λ n. Finds (take c.args.end (g.D.Disk.seen c.run_piece.new.disk)) c.in_ok-at.at bytes n) c.in-Some.is
          (c.in_ok-next.ensures.found clean)) in
          to_record steps c.args.time old file c.args.start c.run_piece.new.machine c.apply.new.machine c.in_ok-at.at
          c.in-Some.next bytes run found
          (subst (λ b. steps c.run_piece.new.machine c.args.time b c.apply.new.machine) c.deref.ensures.value
          c.in_ok-apply.ensures.step);
    }

pub returns-in_default-clause-ran : goal.returns-in_default-clause-ran
returns-in_default-clause-ran g c clean =
    let so_far = c.loop-at.invariant in
    let one = c.run_piece.ensures.reads in
    let steps = g.M.Machine.steps in
    let old = c.args.machine.now in
    let file = take c.args.end (g.D.Disk.seen c.args.disk.now) in
    let bytes = c.read_record.new.bytes.items in
    let mid_clean = c.read_record.ensures.reads.clean clean in
    let piece = subst (λ f. RunsTo steps c.args.time c.loop-at.machine (take c.args.end f) c.loop-at.at c.in_ok-at.at
    c.run_piece.new.machine) so_far.reads.seen (c.in_ok-at.ensures.ran mid_clean) in
    let run = to_more steps c.args.time old file c.args.start c.loop-at.machine c.run_piece.new.machine
    c.loop-at.at c.in_ok-at.at (so_far.ran (one.clean mid_clean)) piece in
    let none = subst (λ f. Finds (take c.args.end f) c.in_ok-at.at bytes None)
    (one.seen ∙ so_far.reads.seen)
    (subst (λ n. Finds (take c.args.end (g.D.Disk.seen c.run_piece.new.disk)) c.in_ok-at.at bytes n) c.in_default.is
    (c.in_ok-next.ensures.found clean)) in
    to_end steps c.args.time old file c.args.start c.run_piece.new.machine c.in_ok-at.at bytes run none
