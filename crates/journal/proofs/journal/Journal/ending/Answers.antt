use Rattle.std.proofs.Common.{refl, rules}
use Rattle.journal.proofs.Commit.{ends_at}
use Rattle.journal.proofs.journal.Journal.ending.Goals as goal

pub returns-clause-end : goal.returns-clause-end
returns-clause-end g c clean =
    let it = c.args.self.now in
    let was_clean = c.measure.ensures.reads.clean (c.see_end.ensures.reads.clean clean) in
    ends_at _ _ _ _ _ _ (it.rests (search rules) was_clean _ (g.met.D.Disk.seen_may_stay it.disk)) refl
    (it.counted (search rules) was_clean)
