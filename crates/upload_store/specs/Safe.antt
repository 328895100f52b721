-- Bodies that no crash takes.
use Rattle.std.specs.Prelude.{◌≡◌, ℕ, ◌+◌, List, [], ◌∷◌, Option, Some}
use Rattle.std.specs.List.{All}
use Rattle.bodies.specs.Shelf.{Stored}
use Rattle.upload_store.specs.Found.{numbers_of}

module _ {S : Type 0} (held : S → ℕ → Option (List ℕ)) (may_leave : S → ℕ → Option (List ℕ) → Type 0) where
  -- these bytes are the file of this number, and every crash leaves exactly them
  pub record IsSafe (shelf : S) (number : ℕ) (bytes : List ℕ) : Type 0 where
    pub there : held shelf number ≡ Some bytes
    pub stored : Stored may_leave shelf number bytes

  -- the number has a file that every crash leaves
  abbrev pub HasSafe : S → ℕ → Type 0
  HasSafe shelf number = (bytes : List ℕ) × IsSafe shelf number bytes

  -- each number that these records name has one
  abbrev pub AreSafe : S → List (List ℕ) → Type 0
  AreSafe shelf texts = All (λ text. All (HasSafe shelf) (numbers_of text)) texts

  -- these bodies are safe, the first under this number and each of the others under the next
  abbrev pub AreWritten : S → ℕ → List (List ℕ) → Type 0
  AreWritten shelf first [] = Unit {0}
  AreWritten shelf first (body ∷ bodies) = IsSafe shelf first body × AreWritten shelf (first + 1) bodies
