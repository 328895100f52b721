-- The items of a history.
use Rattle.std.specs.Prelude.{List, [], ◌∷◌, ◌++◌, Option, Some, None}
use Rattle.std.specs.declared.snapshot.Snapshot.{Snapshot}

-- none, or the items before the last one, and that
abbrev pub items_of : {T : Type 0} → Option (Snapshot (List T) × Snapshot T) → List T
items_of None = []
items_of (Some parts) = parts.0.value ++ parts.1.value ∷ []
