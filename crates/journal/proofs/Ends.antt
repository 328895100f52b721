-- What the bytes that were read say of the end of the batches.
use Rattle.std.proofs.Common.{◌≡◌, ℕ, true, false, List, drop, Option, Some, None}
use Rattle.std.specs.Option.{is_some}
use Rattle.journal.specs.Format.{Kept, next}
use Rattle.journal.specs.Reads.{FindsBatch, headed}
use Rattle.journal.specs.declared.head.Head.{Head}

module _ (file : List ℕ) (at number : ℕ) where
  pub later_found : (head : Option Head) → FindsBatch file at number head → is_some head ≡ true →
      (found : Kept × List ℕ) × (next number (drop at file) ≡ Some found)
  later_found (Some head) found is = (headed file at head, found)
  later_found None found is = absurd cc

  pub none_found : (head : Option Head) → FindsBatch file at number head → is_some head ≡ false → next number
      (drop at file) ≡ None
  none_found (Some head) found is = absurd cc
  none_found None found is = found
