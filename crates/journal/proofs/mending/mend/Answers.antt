use Rattle.std.proofs.Common.{◌≡◌, ◌+◌, length, drop, IsTrue, ℕ, List, inl, inr, sym, ap, subst, ◌∙◌, arith, rules}
use Rattle.std.proofs.Common.{Result, Ok, Err}
use Rattle.std.specs.Prelude.{IfOk}
use Rattle.sqlite_disk.specs.Disk.{Torn}
use Rattle.journal.specs.Format.{batches, sector}
use Rattle.journal.specs.Mending.{IsShutIn, HasHead, ComesBack}
use Rattle.journal.specs.Reads.{EndsAt}
use Rattle.journal.proofs.Back.{stored_first, line_stays, mended}
use Rattle.journal.proofs.mending.mend.Given.{Over}
use Rattle.journal.proofs.mending.mend.Goals as goal

ok_weaker : {A E : Type 0} (r : Result A E) (P Q : A → Type 0) → ((x : A) → P x → Q x) → IfOk r P → IfOk r Q
ok_weaker (Ok x) P Q weaker p = weaker x p
ok_weaker (Err e) P Q weaker p = p

-- what was read is what it began with
same : (g : Over) (c : goal.After-mend_end g) → g.D.Disk.seen c.replay.new.disk ≡ g.D.Disk.seen c.args.disk.now
same g c = cc

ends : (g : Over) (c : goal.After-mend_end g) → IsTrue (g.D.Disk.is_clean c.mend_end.new.disk)
    → EndsAt (g.D.Disk.seen c.args.disk.now) c.in_ok-end.end.at c.in_ok-end.end.count
ends g c clean = search (rules, arith)

-- what a crash leaves differs in the two sectors at the end
left : (g : Over) (c : goal.After-mend_end g) (file : List ℕ) → g.D.Disk.may_leave c.mend_end.new.disk file
    → Torn c.in_ok-end.end.at (sector + sector) (g.D.Disk.seen c.args.disk.now) file
left g c file may = search (rules, arith)

pub returns-then-not-stands-clause-left : goal.returns-then-not-stands-clause-left
returns-then-not-stands-clause-left g c is =
    let seen = c.measure.ensures.reads.seen ∙ c.sync.ensures.seen in (
      c.is_ours.ensures.reads.seen ∙ seen,
      λ clean.
          let measured = c.in_ok-len.ensures.measured (c.is_ours.ensures.reads.clean clean) in
          inl (omega (arith, measured, ap length c.sync.ensures.seen, c.in-Ok.ensures.small c.if-not-stands.true)),
    )

pub returns-clause-mended : goal.returns-clause-mended
returns-clause-mended g c =
    let old = g.D.Disk.seen c.args.disk.now in
    let new = g.D.Disk.seen c.mend_end.new.disk in
    let at = c.in_ok-end.end.at in
    let count = c.in_ok-end.end.count in
    ok_weaker c.mend_end.result _ _ (λ is back is_true clean.
    mended old at count c.in_ok-end.ensures.begins.0 (ends g c clean) new
    (subst (λ f. Torn at (sector + sector) f new) (same g c) c.mend_end.ensures.others)
    (subst (λ f. ComesBack at count f new) (same g c) (back is_true clean))) c.mend_end.ensures.mended

pub returns-clause-left : goal.returns-clause-left
returns-clause-left g c =
    let old = g.D.Disk.seen c.args.disk.now in
    let at = c.in_ok-end.end.at in
    let count = c.in_ok-end.end.count in
    ok_weaker c.mend_end.result _ _ (λ is stays is_false. (
      (stays is_false).0 ∙ same g c,
      λ clean. inr (
        at,
        count,
        ends g c clean,
        λ shut. ((stays is_false).1 clean).0 (subst (λ f. IsShutIn f at count) (sym (same g c)) shut),
        λ has. ((stays is_false).1 clean).1 (subst (λ f. HasHead f at count) (sym (same g c)) has),
      ),
    )) c.mend_end.ensures.left

pub returns-clause-any_crash : goal.returns-clause-any_crash
returns-clause-any_crash g c clean file may =
    let old = g.D.Disk.seen c.args.disk.now in
    let at = c.in_ok-end.end.at in
    let count = c.in_ok-end.end.count in (
      old,
      g.met.D.Disk.seen_may_stay c.args.disk.now,
      batches count (drop at file),
      stored_first old at count c.in_ok-end.ensures.begins.0 (ends g c clean) file (left g c file may),
    )

pub returns-clause-front : goal.returns-clause-front
returns-clause-front g c all clean file may = search (rules, arith, line_stays, ends, left)
