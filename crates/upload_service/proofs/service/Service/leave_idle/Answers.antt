use Rattle.std.proofs.Common.{◌≤◌, sym, subst}
use Rattle.std.specs.FinMap as map
use Rattle.upload_service.specs.Machine.{State, Table, Session, IsLawful, all_awake}
use Rattle.upload_service.specs.Kept.Tables.{state_of}
use Rattle.upload_service.proofs.Lawful.{lawful_awake}
use Rattle.upload_service.proofs.service.Service.leave_idle.Goals as goal

pub invariant_of-self : goal.invariant_of-self
invariant_of-self c =
    let s : State = state_of c.self.inside.tables in
    let fewer : map.len (all_awake s c.args.now) ≤ map.len s.sessions =
    subst (λ (m : Table Session). map.len m ≤ map.len s.sessions) c.leave_idle.ensures.awake c.leave_idle.ensures.fewer in
    record {
      bounds = c.self.invariant.bounds;
      state =
          subst (λ (m : Table Session). IsLawful (record s { sessions = m })) (sym c.leave_idle.ensures.awake)
          (lawful_awake s c.args.now fewer c.self.invariant.state);
    }

pub returns-clause-lawful : goal.returns-clause-lawful
returns-clause-lawful c =
    let s : State = state_of c.self.inside.tables in
    let fewer : map.len (all_awake s c.args.now) ≤ map.len s.sessions =
    subst (λ (m : Table Session). map.len m ≤ map.len s.sessions) c.leave_idle.ensures.awake c.leave_idle.ensures.fewer in
    subst (λ (m : Table Session). IsLawful (record s { sessions = m })) (sym c.leave_idle.ensures.awake)
    (lawful_awake s c.args.now fewer c.self.invariant.state)
