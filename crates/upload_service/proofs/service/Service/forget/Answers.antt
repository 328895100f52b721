use Rattle.std.proofs.Common.{sym, subst, arith, rules}
use Rattle.upload_service.specs.Machine.{State, IsLawful}
use Rattle.upload_service.specs.Kept.Tables.{state_of}
use Rattle.upload_service.proofs.Forgotten.{lawful_forgotten}
use Rattle.upload_service.proofs.service.Service.forget.Goals as goal

pub invariant_of-self : goal.invariant_of-self
invariant_of-self c =
    let s : State = state_of c.self.inside.tables in
    record {
      bounds = c.self.invariant.bounds;
      state =
          subst IsLawful (λ i. record s { blobs = sym c.forget.ensures.blobs i; pairs = sym c.forget.ensures.pairs i })
          (lawful_forgotten s c.args.name.now c.args.digest.now c.self.invariant.state);
    }

pub returns-clause-lawful : goal.returns-clause-lawful
returns-clause-lawful c =
    let s : State = state_of c.self.inside.tables in
    subst IsLawful (λ i. record s { blobs = sym c.forget.ensures.blobs i; pairs = sym c.forget.ensures.pairs i })
    (lawful_forgotten s c.args.name.now c.args.digest.now c.self.invariant.state)

pub returns-clause-forgets : goal.returns-clause-forgets
returns-clause-forgets c = search (rules, arith)
