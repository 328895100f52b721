-- The files that are named stay.
use Rattle.std.proofs.Common.{◌≡◌, ◌≢◌, ◌∙◌, ℕ, List, Option, refl, subst}
use Rattle.std.specs.List.{All}
use Rattle.std.proofs.lemmas.List.Elements.{All-weaker}
use Rattle.bodies.specs.Shelf.{Keeps}
use Rattle.upload_store.specs.Found.{numbers_of}
use Rattle.upload_records.specs.Names.{Has, Notes}
use Rattle.upload_records.specs.declared.named.Named.{Named}

pub other_than : (it : Named) (number n : ℕ) → ¬ (Has it number) → Has it n → n ≢ number
other_than it number n none has is = none (subst (Has it) is has)

module _ {S : Type 0} (held : S → ℕ → Option (List ℕ)) (may_leave : S → ℕ → Option (List ℕ) → Type 0) where
  pub same_keeps : (shelf : S) (n : ℕ) → Keeps held may_leave shelf shelf n
  same_keeps shelf n = record { same = refl; left = λ file may. may }

  pub keeps_then : (old mid new : S) (n : ℕ) → Keeps held may_leave old mid n → Keeps held may_leave mid new n
      → Keeps held may_leave old new n
  keeps_then old mid new n first second = record {
    same = second.same ∙ first.same;
    left = λ file may. first.left file (second.left file may);
  }

  pub all_same : (shelf : S) (texts : List (List ℕ))
      → All (λ text. All (λ n. Keeps held may_leave shelf shelf n) (numbers_of text)) texts
  all_same shelf texts k d low j e less = same_keeps shelf _

  pub all_named : (first named : Named) (texts : List (List ℕ)) → Notes first texts named → (old new : S)
      → ((n : ℕ) → Has named n → Keeps held may_leave old new n)
      → All (λ text. All (λ n. Keeps held may_leave old new n) (numbers_of text)) texts
  all_named first named texts notes old new keeps =
      All-weaker _ _ (λ text has. All-weaker (Has named) _ keeps (numbers_of text) has) texts notes.named
