use Rattle.std.proofs.Math.Logic.{∥∥₁_map}
use Rattle.upload_keeping.proofs.Entries.{noted_so}
use Rattle.upload_keeping.proofs.keeping.StoreKeepingKeeping.note.Goals as goal

pub invariant_of-self : goal.invariant_of-self
invariant_of-self g c =
    let seen = ∥∥₁_map c.args.self.now.kept c.see.ensures.kept in
    record {
      kept = ∥∥₁_map seen c.ready.ensures.kept;
      ready = ∥∥₁_map seen c.ready.ensures.ready;
    }

pub returns-clause-noted : goal.returns-clause-noted
returns-clause-noted g c = noted_so _ _ c.ready.result _ c.is_some.ensures c.ready.ensures.noted
