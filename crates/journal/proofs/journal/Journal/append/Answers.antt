use Rattle.std.proofs.Common.{◌≡◌, ◌+◌, length, subst, sym, ap, ◌∙◌, inl, inr, arith, rules}
use Rattle.sqlite_disk.specs.Disk.{Torn}
use Rattle.journal.specs.Gate.{IsStaged}
use Rattle.journal.specs.Batch.{batch_size}
use Rattle.journal.specs.Format.{stored, records, whole, sector}
use Rattle.journal.proofs.Listing.{is_whole}
use Rattle.journal.proofs.Places.{same_back}
use Rattle.journal.proofs.Commit.{stored_rests, still_kept, kept_alone, one_more, either, committed, staged_still}
use Rattle.journal.proofs.Commit.{front_stays}
use Rattle.journal.proofs.journal.Journal.append.Goals as goal

pub returns-in_default-clause-any_crash : goal.returns-in_default-clause-any_crash
returns-in_default-clause-any_crash g c opened clean file may =
    inl (stored_rests _ _ _ _ file (c.args.self.now.rests opened clean file may))

pub returns-in-Err-clause-any_crash : goal.returns-in-Err-clause-any_crash
returns-in-Err-clause-any_crash g c opened clean file may =
    inl (stored_rests _ _ _ _ _
    (c.stage.ensures.kept _ _ _ (c.args.self.now.rests opened (c.stage.ensures.clean clean)) file may))

pub returns-in-Err-clause-refused : goal.returns-in-Err-clause-refused
returns-in-Err-clause-refused g c usable clean =
    stored_rests _ _ _ _ _
    (c.stage.ensures.kept _ _ _ (c.args.self.now.rests (search rules) (c.stage.ensures.clean clean)) _
    (g.met.D.Disk.seen_may_stay c.stage.new.disk))

pub returns-in-Err-clause-front : goal.returns-in-Err-clause-front
returns-in-Err-clause-front g c opened clean file may =
    let rests = c.stage.ensures.kept _ _ _ (c.args.self.now.rests opened (c.stage.ensures.clean clean)) file may in
    rests.front

pub invariant_of-self-clause-counted : goal.invariant_of-self-clause-counted
invariant_of-self-clause-counted g c usable clean =
    let it = c.args.self.now in
    let was_clean = c.stage.ensures.clean clean in
    it.counted (search rules) was_clean ∙ ap length (sym (stored_rests _ _ _ _ _
    (c.stage.ensures.kept _ _ _ (it.rests (search rules) was_clean) _ (g.met.D.Disk.seen_may_stay c.stage.new.disk))))

pub invariant_of-self-clause-rests : goal.invariant_of-self-clause-rests
invariant_of-self-clause-rests g c usable clean file may =
    let it = c.args.self.now in
    let kept = c.stage.ensures.kept it.line.bytes (stored (g.D.Disk.seen it.disk)) it.len
    (it.rests (search rules) (c.stage.ensures.clean clean)) in
    still_kept _ _ _ _ _ file (kept _ (g.met.D.Disk.seen_may_stay c.stage.new.disk)) (kept file may)

pub returns-in-Err-open_gate-clause-any_crash : goal.returns-in-Err-open_gate-clause-any_crash
returns-in-Err-open_gate-clause-any_crash g c opened clean file may =
    let it = c.args.self.now in
    let old_clean = c.stage.ensures.clean (c.open_gate.ensures.clean clean) in
    let from = c.open_gate.ensures.crash file may in
    either _ _ _ _ _ _ _ _ _ file
    (c.stage.ensures.kept _ _ _ (it.rests opened old_clean) _ (g.met.D.Disk.seen_may_stay c.stage.new.disk))
    c.in_default-stage.ensures.staged (it.counted opened old_clean) c.bytes-bytes.ensures
    (subst (λ d. Torn it.end sector d file) (c.in_default-stage.ensures.synced from.0 from.1) from.2)

pub returns-in-Err-open_gate-clause-closes : goal.returns-in-Err-open_gate-clause-closes
returns-in-Err-open_gate-clause-closes g c opened =
    let it = c.args.self.now in
    let bytes = c.bytes-bytes.result.now in
    let items = c.args.batch.now.bytes.items in
    let new = g.D.Disk.seen c.open_gate.new.disk in
    let same : bytes ≡ items = c.bytes-bytes.ensures in
    let after : it.end + sector + whole (32 + length bytes) ≡ it.end + batch_size c.args.batch.now = omega
    (arith, ap (λ l. whole (32 + length l)) same) in
    let here = staged_still _ _ _ _ _ new c.open_gate.ensures.others c.in_default-stage.ensures.staged in
    inr (subst (λ n. IsStaged it.end n it.count (c.args.time, records items) new) after
    (subst (λ l. IsStaged it.end (it.end + sector + whole (32 + length bytes)) it.count (c.args.time, records l) new)
    same here))

pub returns-in-Err-open_gate-clause-front : goal.returns-in-Err-open_gate-clause-front
returns-in-Err-open_gate-clause-front g c opened clean file may =
    let it = c.args.self.now in
    let old_clean = c.stage.ensures.clean (c.open_gate.ensures.clean clean) in
    let from = c.open_gate.ensures.crash file may in
    front_stays _ _ _ _ it.end _ file
    (c.stage.ensures.kept _ _ _ (it.rests opened old_clean) _ (g.met.D.Disk.seen_may_stay c.stage.new.disk))
    (omega arith) (subst (λ d. Torn it.end sector d file) (c.in_default-stage.ensures.synced from.0 from.1) from.2)

pub invariant_of-self-2-clause-begins : goal.invariant_of-self-2-clause-begins
invariant_of-self-2-clause-begins g c = omega (arith, is_whole (32 + length c.bytes-bytes.result.now))

pub invariant_of-self-2-clause-counted : goal.invariant_of-self-2-clause-counted
invariant_of-self-2-clause-counted g c opened clean =
    let it = c.args.self.now in
    let old_clean = c.stage.ensures.clean (c.open_gate.ensures.clean clean) in
    let counted = it.counted (search rules) old_clean in
    let rests = c.stage.ensures.kept _ _ _ (it.rests (search rules) old_clean) _
    (g.met.D.Disk.seen_may_stay c.stage.new.disk) in
    one_more _ _ _ _ _ _ counted
    (committed _ _ _ _ _ _ _ _ _ _ rests c.in_default-stage.ensures.staged counted c.bytes-bytes.ensures
    c.open_gate.ensures.others c.in_default-open_gate.ensures.open _ _ c.in-Some.ensures.0 c.max-self.ensures)

pub invariant_of-self-2-clause-rests : goal.invariant_of-self-2-clause-rests
invariant_of-self-2-clause-rests g c opened clean file may =
    let it = c.args.self.now in
    let old_clean = c.stage.ensures.clean (c.open_gate.ensures.clean clean) in
    let rests = c.stage.ensures.kept _ _ _ (it.rests (search rules) old_clean) _
    (g.met.D.Disk.seen_may_stay c.stage.new.disk) in
    let done =
    committed _ _ _ _ _ _ _ _ _ _ rests c.in_default-stage.ensures.staged (it.counted (search rules) old_clean)
    c.bytes-bytes.ensures c.open_gate.ensures.others c.in_default-open_gate.ensures.open _ _ c.in-Some.ensures.0
    c.max-self.ensures in
    kept_alone _ _ _ _ _ file done (c.in_default-open_gate.ensures.synced file may)

pub returns-clause-copied : goal.returns-clause-copied
returns-clause-copied g c clean = search (rules, arith, same_back)

pub returns-clause-added : goal.returns-clause-added
returns-clause-added g c clean =
    let it = c.args.self.now in
    let old_clean = c.stage.ensures.clean (c.open_gate.ensures.clean clean) in
    let rests = c.stage.ensures.kept _ _ _ (it.rests (search rules) old_clean) _
    (g.met.D.Disk.seen_may_stay c.stage.new.disk) in
    stored_rests _ _ _ _ _
    (committed _ _ _ _ _ _ _ _ _ _ rests c.in_default-stage.ensures.staged (it.counted (search rules) old_clean)
    c.bytes-bytes.ensures c.open_gate.ensures.others c.in_default-open_gate.ensures.open _ _ c.in-Some.ensures.0
    c.max-self.ensures)

pub returns-clause-durable : goal.returns-clause-durable
returns-clause-durable g c clean file may = search (rules, arith, returns-clause-added)

pub returns-clause-any_crash : goal.returns-clause-any_crash
returns-clause-any_crash g c opened clean file may = inr (returns-clause-durable g c clean file may)
