use Rattle.std.specs.Prelude.{IfSome}
use Rattle.std.proofs.Common.{sym, subst}
use Rattle.std.proofs.Math.Logic.{∥∥₁_map₂}
use Rattle.upload_keeping.specs.Ready.{IsReady}
use Rattle.upload_keeping.proofs.keeping.StoreKeepingKeeping.add.Goals as goal

pub invariant_of-self : goal.invariant_of-self
invariant_of-self g c =
    record {
      kept =
          ∥∥₁_map₂ c.args.self.now.kept
          (subst (λ o. ∥ IfSome o (IsReady c.args.self.now.books) ∥₁) (sym c.in-Some.ensures.value)
          c.args.self.now.ready)
          c.add.ensures.kept;
      ready = ∣ subst (λ o. IfSome o (IsReady c.add.new.self)) (sym c.take.ensures.after) tt ∣₁;
    }
