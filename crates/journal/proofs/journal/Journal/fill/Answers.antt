use Rattle.std.proofs.Common.{length, sym, ap, ◌∙◌, arith}
use Rattle.journal.proofs.Commit.{stored_rests, still_kept, rests_longer}
use Rattle.journal.proofs.journal.Journal.fill.Goals as goal

pub returns-then-from-end-clause-any_crash : goal.returns-then-from-end-clause-any_crash
returns-then-from-end-clause-any_crash g c clean file may =
    cc (stored_rests _ _ _ _ file (c.args.self.now.rests c.requires.open clean file may))

pub returns-in-Ok-clause-any_crash : goal.returns-in-Ok-clause-any_crash
returns-in-Ok-clause-any_crash g c clean file may =
    cc (stored_rests _ _ _ _ _ (c.blank.ensures.kept _ _ _ (c.args.self.now.rests c.requires.open (c.blank.ensures.clean clean)) file may))

pub returns-in-Err-clause-any_crash : goal.returns-in-Err-clause-any_crash
returns-in-Err-clause-any_crash g c clean file may =
    cc (stored_rests _ _ _ _ _ (c.blank.ensures.kept _ _ _ (c.args.self.now.rests c.requires.open (c.blank.ensures.clean clean)) file may))

pub returns-in-Err-clause-front : goal.returns-in-Err-clause-front
returns-in-Err-clause-front g c clean file may =
    let rests = c.blank.ensures.kept _ _ _ (c.args.self.now.rests c.requires.open (c.blank.ensures.clean clean)) file may in
    rests.front

pub invariant_of-self-clause-counted : goal.invariant_of-self-clause-counted
invariant_of-self-clause-counted g c opened clean =
    let it = c.args.self.now in
    let was_clean = c.blank.ensures.clean clean in
    it.counted c.requires.open was_clean ∙ ap length (sym (stored_rests _ _ _ _ _
    (c.blank.ensures.kept _ _ _ (it.rests c.requires.open was_clean) _ (g.met.D.Disk.seen_may_stay c.blank.new.disk))))

pub invariant_of-self-clause-rests : goal.invariant_of-self-clause-rests
invariant_of-self-clause-rests g c opened clean file may =
    let kept = c.blank.ensures.kept _ _ _ (c.args.self.now.rests c.requires.open (c.blank.ensures.clean clean)) in
    let here = still_kept _ _ _ _ _ file (kept _ (g.met.D.Disk.seen_may_stay c.blank.new.disk)) (kept file may) in
    rests_longer _ _ _ _ c.max-self.result file here (omega (arith, c.in-Ok.ensures.far, c.max-self.ensures))
    (omega (arith, c.in-Ok.ensures.written file may, here.there, c.max-self.ensures))

pub invariant_of-self-in-Err-clause-counted : goal.invariant_of-self-in-Err-clause-counted
invariant_of-self-in-Err-clause-counted g c opened clean =
    let it = c.args.self.now in
    let was_clean = c.blank.ensures.clean clean in
    it.counted c.requires.open was_clean ∙ ap length (sym (stored_rests _ _ _ _ _
    (c.blank.ensures.kept _ _ _ (it.rests c.requires.open was_clean) _ (g.met.D.Disk.seen_may_stay c.blank.new.disk))))

pub invariant_of-self-in-Err-clause-rests : goal.invariant_of-self-in-Err-clause-rests
invariant_of-self-in-Err-clause-rests g c opened clean file may =
    let kept = c.blank.ensures.kept _ _ _ (c.args.self.now.rests c.requires.open (c.blank.ensures.clean clean)) in
    still_kept _ _ _ _ _ file (kept _ (g.met.D.Disk.seen_may_stay c.blank.new.disk)) (kept file may)
