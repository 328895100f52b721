use Rattle.std.proofs.Common.{◌∙◌, subst, arith, rules}
use Rattle.journal.specs.Format.{Rests}
use Rattle.journal.specs.Reads.{Repairs}
use Rattle.journal.proofs.Repaired.{same_repaired, line_repaired, rests_repaired}
use Rattle.journal.proofs.recovery.prepare.Goals as goal

pub returns-in_err-len-clause-any_crash : goal.returns-in_err-len-clause-any_crash
returns-in_err-len-clause-any_crash g c clean file may =
    let mid = g.D.Disk.seen c.settle.new.disk in
    let at = c.in_ok-end.end.at in
    let read_clean = c.repair.ensures.clean clean in
    let ends = c.in_ok-end.ensures.end read_clean in
    let repairs : Repairs at mid file = subst (λ f. Repairs at f file) c.replay.ensures.reads.seen
    (c.repair.ensures.crash clean file may) in (
      g.D.Disk.seen c.args.disk.now,
      g.met.D.Disk.seen_may_stay c.args.disk.now,
      same_repaired mid at c.in_ok-end.end.count c.in_ok-end.ensures.begins.0 ends file repairs ∙
          c.in_ok-begun.ensures.same (c.replay.ensures.reads.clean read_clean),
    )

pub returns-clause-any_crash : goal.returns-clause-any_crash
returns-clause-any_crash g c clean file may =
    let mid = g.D.Disk.seen c.settle.new.disk in
    let at = c.in_ok-end.end.at in
    let read_clean = c.repair.ensures.clean clean in
    let ends = c.in_ok-end.ensures.end read_clean in
    let repairs : Repairs at mid file = subst (λ f. Repairs at f file) c.replay.ensures.reads.seen
    (c.repair.ensures.crash clean file may) in (
      g.D.Disk.seen c.args.disk.now,
      g.met.D.Disk.seen_may_stay c.args.disk.now,
      same_repaired mid at c.in_ok-end.end.count c.in_ok-end.ensures.begins.0 ends file repairs ∙
          c.in_ok-begun.ensures.same (c.replay.ensures.reads.clean read_clean),
    )

pub returns-clause-rests : goal.returns-clause-rests
returns-clause-rests g c clean =
    let mid = g.D.Disk.seen c.settle.new.disk in
    let now = g.D.Disk.seen c.repair.new.disk in
    let at = c.in_ok-end.end.at in
    let len = c.in_ok-len.len in
    let read_clean = c.repair.ensures.clean clean in
    let mid_clean = c.replay.ensures.reads.clean read_clean in
    let ends = c.in_ok-end.ensures.end read_clean in
    let repairs : Repairs at mid now = subst (λ f. Repairs at f now) c.replay.ensures.reads.seen
    (c.repair.ensures.crash clean now (g.met.D.Disk.seen_may_stay c.repair.new.disk)) in
    subst (λ l. Rests c.args.line.now l at len now) (c.in_ok-begun.ensures.same mid_clean)
    (rests_repaired mid at c.in_ok-end.end.count c.in_ok-end.ensures.begins.0 ends now c.args.line.now len
    (c.in_ok-begun.ensures.line mid_clean) repairs
    (omega (arith, c.in_ok-len.ensures.long.0)) (c.in_ok-len.ensures.there clean) (c.in_ok-len.ensures.shut clean))

pub returns-in_err-len-clause-front : goal.returns-in_err-len-clause-front
returns-in_err-len-clause-front g c all clean file may = search (rules, arith, line_repaired)

pub returns-clause-front : goal.returns-clause-front
returns-clause-front g c all clean file may = search (rules, arith, line_repaired)
