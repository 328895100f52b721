-- Steps of a shelf, one after the other.
use Rattle.std.proofs.Common.{◌≡◌, ◌∙◌, ℕ, List, Option}
use Rattle.bodies.specs.Shelf.{KeepsAll, KeepsOthers}

module _ {S : Type 0} (held : S → ℕ → Option (List ℕ)) (may_leave : S → ℕ → Option (List ℕ) → Type 0) where
  pub then_same : {old mid new : S} {number told : ℕ} → KeepsOthers held may_leave old mid told → told ≡ number
      → KeepsAll held may_leave mid new → KeepsOthers held may_leave old new number
  then_same first is second =
      record {
        each = λ other apart.
            let a = first.each other (λ same. apart (same ∙ is)) in
            let b = second.each other in
            record { same = b.same ∙ a.same; left = λ file h. a.left file (b.left file h) };
      }
