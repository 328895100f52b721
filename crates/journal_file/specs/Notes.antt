-- The items of notes.
use Rattle.std.specs.Prelude.{List, [], ◌∷◌, Option, Some, None}
use Rattle.std.specs.declared.snapshot.Snapshot.{Snapshot}

-- none, or the newest and those before it
abbrev pub noted : {T : Type 0} → Option (Snapshot T × Snapshot (List T)) → List T
noted None = []
noted (Some parts) = parts.0.value ∷ parts.1.value
