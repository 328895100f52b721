use Rattle.std.proofs.Common.{◌≡◌, ◌∙◌, inl, inr, length, take, drop, sym, ap, subst, rules}
use Rattle.journal.specs.Ending.{HasNoLater}
use Rattle.journal.proofs.Commit.{first_held}
use Rattle.journal.proofs.Places.{held}
use Rattle.journal.proofs.ending.see_end.Goals.{then-gate-eq-OPEN-via-then-gate-eq-OPEN}
use Rattle.journal.proofs.ending.see_end.Goals.{then-gate-eq-OPEN-via-else-gate-eq-OPEN+then-is_same}
use Rattle.journal.proofs.ending.see_end.Goals as goal

pub returns-then-gate-eq-OPEN-clause-so : goal.returns-then-gate-eq-OPEN-clause-so
returns-then-gate-eq-OPEN-clause-so g c clean =
    let file = g.D.Disk.seen c.args.disk.now in
    let gate = c.read.new.bytes in
    let long : length gate ≡ 4096 = search rules in
    let holds = c.in_ok-read.ensures.read clean (search rules) in
    elim c.then-gate-eq-OPEN.branch [
      | then-gate-eq-OPEN-via-then-gate-eq-OPEN w ↦
          inr (inl (first_held file c.args.end gate holds (search rules) ∙ w.if-gate-eq-OPEN.true))
      | then-gate-eq-OPEN-via-else-gate-eq-OPEN+then-is_same w ↦
          inr (inr (inl (ap (λ n. take n (drop c.args.end file)) (sym long) ∙ held file c.args.end gate holds
          ∙ w.is_same.ensures.same w.if-is_same.true)))
    ]

pub returns-then-is_same-2-clause-so : goal.returns-then-is_same-2-clause-so
returns-then-is_same-2-clause-so g c clean =
    let file = g.D.Disk.seen c.args.disk.now in
    let gate = c.read.new.bytes in
    let long : length gate ≡ 4096 = search rules in
    record {
      zeros =
          ap (λ n. take n (drop c.args.end file)) (sym long) ∙ held file c.args.end gate
          (c.in_ok-read.ensures.read (c.has_later.ensures.reads.clean clean) (search rules))
          ∙ c.is_same-2.ensures.same c.if-is_same-2.true;
      no_later = subst (λ f. HasNoLater f c.args.end c.args.count) c.read.ensures.reads.seen
          (c.in_ok-has_later.ensures.none c.if-branch.false clean);
    }

pub returns-clause-so : goal.returns-clause-so
returns-clause-so g c clean =
    let file = g.D.Disk.seen c.args.disk.now in
    let gate = c.read.new.bytes in
    let long : length gate ≡ 4096 = search rules in
    let holds = c.in_ok-read.ensures.read (c.has_later.ensures.reads.clean clean) (search rules) in
    let first = first_held file c.args.end gate holds (search rules) in
    let there = ap (λ n. take n (drop c.args.end file)) (sym long) ∙ held file c.args.end gate holds in
    inr (
      λ is. c.if-gate-eq-OPEN.false (sym first ∙ is),
      λ left. c.is_same.ensures.other c.if-is_same.false (sym there ∙ left),
      subst (λ f. HasNoLater f c.args.end c.args.count) c.read.ensures.reads.seen
          (c.in_ok-has_later.ensures.none c.if-branch.false clean),
      λ zeros. c.is_same-2.ensures.other c.if-is_same-2.false (sym there ∙ zeros),
    )
