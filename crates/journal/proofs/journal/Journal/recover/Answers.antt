use Rattle.std.proofs.Common.{length, subst, sym, ap, ◌∙◌}
use Rattle.journal.specs.Format.{stored, Rests}
use Rattle.journal.proofs.Commit.{stored_rests, kept_alone}
use Rattle.journal.proofs.journal.Journal.recover.Goals as goal

pub returns-clause-same : goal.returns-clause-same
returns-clause-same g c clean = stored_rests _ _ _ _ _ (c.in_ok-ready.ensures.rests clean)

pub returns-clause-durable : goal.returns-clause-durable
returns-clause-durable g c clean file may =
    ap stored (c.in_ok-ready.ensures.synced file may) ∙ stored_rests _ _ _ _ _ (c.in_ok-ready.ensures.rests clean)

pub invariant_of-self-2-clause-counted : goal.invariant_of-self-2-clause-counted
invariant_of-self-2-clause-counted g c opened clean =
    c.in_ok-ready.ensures.counted clean ∙ ap length (sym (stored_rests _ _ _ _ _ (c.in_ok-ready.ensures.rests clean)))

pub invariant_of-self-2-clause-rests : goal.invariant_of-self-2-clause-rests
invariant_of-self-2-clause-rests g c opened clean file may =
    let now = g.D.Disk.seen c.prepare.new.disk in
    let ready = c.in_ok-ready.ready in
    let here = subst (λ l. Rests l (stored (g.D.Disk.seen c.args.self.now.disk)) ready.end ready.len now)
    c.bytes.ensures (c.in_ok-ready.ensures.rests clean) in
    kept_alone _ _ _ _ now file here (c.in_ok-ready.ensures.synced file may)
