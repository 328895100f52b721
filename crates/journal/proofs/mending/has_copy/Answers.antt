use Rattle.std.proofs.Common.{rules, ◌≡◌, ◌+◌, length, drop, take, IsTrue, sym, ap, ◌∙◌, arith}
use Rattle.journal.specs.Format.{sector}
use Rattle.journal.specs.Mending.{copy_at, head_at}
use Rattle.journal.proofs.Places.{held}
use Rattle.journal.proofs.mending.has_copy.Given.{Over}
use Rattle.journal.proofs.mending.has_copy.Goals as goal

-- what was read is what stands there
copied : (g : Over) (c : goal.After-is_same g) → IsTrue (g.D.Disk.is_clean c.read-2.new.disk)
    → copy_at (g.D.Disk.seen c.args.disk.now) c.args.at ≡ c.read.new.bytes
copied g c clean =
    let file = g.D.Disk.seen c.args.disk.now in
    let long : length c.read.new.bytes ≡ 32 = search rules in
    ap (λ n. take n (drop (c.args.at + 1) file)) (sym long) ∙ held file (c.args.at + 1) c.read.new.bytes
    (c.in_ok-read.ensures.read (c.read-2.ensures.reads.clean clean) (search rules))

headed_so : (g : Over) (c : goal.After-is_same g) → IsTrue (g.D.Disk.is_clean c.read-2.new.disk)
    → head_at (g.D.Disk.seen c.args.disk.now) c.args.at ≡ c.read-2.new.bytes
headed_so g c clean =
    let mid = g.D.Disk.seen c.read.new.disk in
    let long : length c.read-2.new.bytes ≡ 32 = search rules in
    ap (λ f. head_at f c.args.at) (sym c.read.ensures.reads.seen)
    ∙ ap (λ n. take n (drop (c.args.at + sector) mid)) (sym long) ∙ held mid (c.args.at + sector) c.read-2.new.bytes
    (c.in_ok-read-2.ensures.read clean (search rules))

pub returns-clause-has : goal.returns-clause-has
returns-clause-has g c is clean = copied g c clean ∙ c.is_same.ensures.same is ∙ sym (headed_so g c clean)

pub returns-clause-other : goal.returns-clause-other
returns-clause-other g c is clean same = search (rules, arith, copied, headed_so)
