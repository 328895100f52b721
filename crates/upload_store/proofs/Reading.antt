-- Reads of a shelf, one after the other.
use Rattle.std.proofs.Common.{◌∙◌, ℕ, List, Option, arith, rules}
use Rattle.upload_store.specs.Reading.{ReadsOnly}

module _ {S : Type 0} (held : S → ℕ → Option (List ℕ)) (may_leave : S → ℕ → Option (List ℕ) → Type 0)
    (IsClean : S → Type 0) where
  pub reads_none : (shelf : S) → ReadsOnly held may_leave IsClean shelf shelf
  reads_none shelf = search (rules, arith)

  pub reads_then : (old mid new : S) → ReadsOnly held may_leave IsClean old mid
      → ReadsOnly held may_leave IsClean mid new
      → ReadsOnly held may_leave IsClean old new
  reads_then old mid new first second = record {
    all = record {
      each = λ n.
          let a = first.all.each n in
          let b = second.all.each n in
          record { same = b.same ∙ a.same; left = λ file h. a.left file (b.left file h) };
    };
    clean = λ h. first.clean (second.clean h);
  }
