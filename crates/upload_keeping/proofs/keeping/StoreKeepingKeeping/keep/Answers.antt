use Rattle.std.proofs.Math.Logic.{∥∥₁_map}
use Rattle.upload_keeping.proofs.keeping.StoreKeepingKeeping.keep.Goals as goal

pub invariant_of-self-in-None : goal.invariant_of-self-in-None
invariant_of-self-in-None g c =
    record { kept = ∥∥₁_map c.args.self.now.kept c.keep.ensures.kept; ready = ∣ tt ∣₁ }

pub invariant_of-self-in-Some : goal.invariant_of-self-in-Some
invariant_of-self-in-Some g c =
    record { kept = ∥∥₁_map c.args.self.now.kept c.keep.ensures.kept; ready = ∣ tt ∣₁ }

pub invariant_of-self : goal.invariant_of-self
invariant_of-self g c =
    record { kept = ∥∥₁_map c.args.self.now.kept c.keep_nothing.ensures.kept; ready = ∣ tt ∣₁ }
