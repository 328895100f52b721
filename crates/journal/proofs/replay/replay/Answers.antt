use Rattle.std.proofs.Common.{◌≡◌, ◌+◌, ◌≤◌, ◌++◌, ◌∷◌, [], Some, None, length, take, drop, length-append, length-drop}
use Rattle.std.proofs.Common.{subst, sym, ap, ◌∙◌, arith, rules}
use Rattle.std.proofs.lemmas.List.{drop-take}
use Rattle.journal.specs.Format.{records, next, has_mark, sector, whole}
use Rattle.journal.specs.Machine.{Runs, RunsRecords}
use Rattle.journal.specs.Reads.{FindsBatch}
use Rattle.journal.proofs.Listing.{is_whole}
use Rattle.journal.proofs.Marks.{marked_more}
use Rattle.journal.proofs.Scan.{read_more, read_all, runs_more}
use Rattle.journal.proofs.replay.replay.Goals as goal

pub loop-bytes-preserved : goal.loop-bytes-preserved
loop-bytes-preserved g c =
    let file = g.D.Disk.seen c.args.disk.now in
    let so_far = c.loop-bytes.invariant in
    let one = c.read_head.ensures.reads in
    let two = c.run_records.ensures.reads in
    let head = c.in-Some.head in
    let at = c.loop-bytes.at in
    let w = is_whole (32 + head.len) in
    record {
      begins = omega (arith, so_far.begins);
      even = omega (arith, so_far.even, w.even, c.whole.ensures);
      within = search (rules, arith, c.in_ok-head.ensures.within, c.whole.ensures);
      few = omega (arith, so_far.few);
      reads = record {
        seen = two.seen ∙ one.seen ∙ so_far.reads.seen;
        clean = λ clean. so_far.reads.clean (one.clean (two.clean clean));
        usable = two.usable;
        faults = search rules;
        crash = λ left may. so_far.reads.crash left (one.crash left (two.crash left may));
      };
      others = λ first kept. c.run_records.ensures.keeps first (so_far.others first kept);
      ran = λ clean.
          let mid_clean = two.clean clean in
          let before = so_far.ran (one.clean mid_clean) in
          let found = c.in_ok-head.ensures.found mid_clean in
          let on : at + sector + whole (32 + head.len) ≡ at + (4096 + c.whole.result) = omega (arith, c.whole.ensures)
          in
          let records_here = records (take head.len (drop (at + sector + 32) file)) in
          let here : next c.loop-bytes.count (drop at file) ≡ Some
          ((head.time, records_here), drop (at + (4096 + c.whole.result)) file) =
          subst (λ n. next c.loop-bytes.count (drop at file) ≡ Some ((head.time, records_here), drop n file)) on
          (subst (λ f. FindsBatch f at c.loop-bytes.count (Some head)) so_far.reads.seen
          (subst (λ n. FindsBatch (g.D.Disk.seen c.loop-bytes.disk) at c.loop-bytes.count n) c.in-Some.is found))
          in
          let at_done : next (length before.0) (drop at file) ≡ Some
          ((head.time, records_here), drop (at + (4096 + c.whole.result)) file) =
          subst (λ n. next n (drop at file) ≡ Some
          ((head.time, records_here), drop (at + (4096 + c.whole.result)) file)) before.2 here in
          let seen_is : g.D.Disk.seen c.read_head.new.disk ≡ file = one.seen ∙ so_far.reads.seen in
          let same_records : records (drop (at + 4096 + 32)
          (take (at + 4096 + 32 + head.len) (g.D.Disk.seen c.read_head.new.disk))) ≡ records_here =
          ap (λ f. records (drop (at + 4096 + 32) (take (at + 4096 + 32 + head.len) f))) seen_is ∙ ap records
          (drop-take (at + 4096 + 32) head.len file) in
          let ran : RunsRecords g.M.Machine.steps head.time c.loop-bytes.machine records_here
          c.run_records.new.machine =
          subst (λ rs. RunsRecords g.M.Machine.steps head.time c.loop-bytes.machine rs c.run_records.new.machine)
          same_records (c.in_ok-run_records.ensures.ran clean) in
          let inside : at + sector + 32 + head.len ≤ c.args.len = search (rules, arith, c.in_ok-head.ensures.records) in
          let len_is = c.requires.measured (so_far.reads.clean (one.clean mid_clean)) in (
            before.0 ++ (head.time, records_here) ∷ [],
            read_more file before.0 at (at + (4096 + c.whole.result)) (head.time, records_here) before.1 (omega arith)
                (search (rules, arith, c.in_ok-head.ensures.within, c.whole.ensures, len_is)) at_done,
            ap (λ n. n + 1) before.2 ∙ sym (length-append before.0 ((head.time, records_here) ∷ [])),
            marked_more c.loop-bytes.has_mark head.time head.len before.0 (drop (at + sector + 32) file) before.3
                (omega (arith, length-drop (at + sector + 32) file, len_is, inside)),
            runs_more g.M.Machine.steps _ _ _ before.0 (head.time, records_here) before.4 ran,
          );
    }

pub returns-clause-ran : goal.returns-clause-ran
returns-clause-ran g c clean =
    let file = g.D.Disk.seen c.args.disk.now in
    let so_far = c.loop-bytes.invariant in
    let old_clean = c.read_head.ensures.reads.clean clean in
    let before = so_far.ran old_clean in
    let none : next c.loop-bytes.count (drop c.loop-bytes.at file) ≡ None =
    subst (λ f. next c.loop-bytes.count (drop c.loop-bytes.at f) ≡ None) so_far.reads.seen
    (subst (λ n. FindsBatch (g.D.Disk.seen c.loop-bytes.disk) c.loop-bytes.at c.loop-bytes.count n) c.in_default.is
    (c.in_ok-head.ensures.found clean)) in
    let len_is = c.requires.measured (so_far.reads.clean old_clean) in
    subst (λ l. Runs g.M.Machine.steps c.args.machine.now l c.loop-bytes.machine)
    (sym (read_all file before.0 c.loop-bytes.at c.loop-bytes.count before.1 before.2
    (omega (arith, so_far.within, len_is)) none).0) before.4

pub returns-clause-end : goal.returns-clause-end
returns-clause-end g c clean =
    let file = g.D.Disk.seen c.args.disk.now in
    let so_far = c.loop-bytes.invariant in
    let old_clean = c.read_head.ensures.reads.clean clean in
    let before = so_far.ran old_clean in
    let none : next c.loop-bytes.count (drop c.loop-bytes.at file) ≡ None =
    subst (λ f. next c.loop-bytes.count (drop c.loop-bytes.at f) ≡ None) so_far.reads.seen
    (subst (λ n. FindsBatch (g.D.Disk.seen c.loop-bytes.disk) c.loop-bytes.at c.loop-bytes.count n) c.in_default.is
    (c.in_ok-head.ensures.found clean)) in
    let len_is = c.requires.measured (so_far.reads.clean old_clean) in
    (read_all file before.0 c.loop-bytes.at c.loop-bytes.count before.1 before.2
    (omega (arith, so_far.within, len_is)) none).1

pub returns-clause-marked : goal.returns-clause-marked
returns-clause-marked g c clean =
    let file = g.D.Disk.seen c.args.disk.now in
    let so_far = c.loop-bytes.invariant in
    let old_clean = c.read_head.ensures.reads.clean clean in
    let before = so_far.ran old_clean in
    let none : next c.loop-bytes.count (drop c.loop-bytes.at file) ≡ None =
    subst (λ f. next c.loop-bytes.count (drop c.loop-bytes.at f) ≡ None) so_far.reads.seen
    (subst (λ n. FindsBatch (g.D.Disk.seen c.loop-bytes.disk) c.loop-bytes.at c.loop-bytes.count n) c.in_default.is
    (c.in_ok-head.ensures.found clean)) in
    let len_is = c.requires.measured (so_far.reads.clean old_clean) in
    before.3 ∙ ap has_mark (sym (read_all file before.0 c.loop-bytes.at c.loop-bytes.count before.1 before.2
    (omega (arith, so_far.within, len_is)) none).0)
