-- What a run over batches makes of a machine.
use Rattle.std.specs.Prelude.{◌≡◌, ℕ, List, [], ◌∷◌}
use Rattle.journal.specs.Format.{Kept}

-- one record after another, of a batch with this time
abbrev pub RunsRecords : {M : Type 0} → (M → ℕ → List ℕ → M → Type 0) → ℕ → M → List (List ℕ) → M → Type 0
RunsRecords steps time old [] new = new ≡ old
RunsRecords {M} steps time old (bytes ∷ rest) new =
    (mid : M) × steps old time bytes mid × RunsRecords steps time mid rest new

-- one batch after another
abbrev pub Runs : {M : Type 0} → (M → ℕ → List ℕ → M → Type 0) → M → List Kept → M → Type 0
Runs steps old [] new = new ≡ old
Runs {M} steps old (kept ∷ rest) new = (mid : M) × RunsRecords steps kept.0 old kept.1 mid × Runs steps mid rest new
